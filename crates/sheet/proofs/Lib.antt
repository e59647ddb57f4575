-- Laws of the sheet: how long a line and a sheet can be, and that a part of a text decides; that reading and writing
-- undo each other; what an answer tells; what the code needs for each of its steps; and worked sheets.
pub mod Bytes
pub mod OutOfForm
pub mod Building
pub mod Longest
pub mod Length
pub mod Part
pub mod RoundTrip
pub mod Answered
pub mod FacesBack
pub mod Steps
pub mod Opens
pub mod OneMore
pub mod SoFar
pub mod FaceLines
pub mod Plain
pub mod Unless
pub mod PlainLine
pub mod Worked
