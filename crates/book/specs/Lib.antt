-- What the book prints and paper 01 decides: the tables, the rows, the value between rows, and the answer to a
-- question about one zone or local.
pub mod Number
pub mod Row
pub mod Line
pub mod NoHalf
pub mod Interpolated
pub mod Walls
pub mod Gable
pub mod Flat
pub mod SingleSlope
pub mod Spot
pub mod Roofs
pub mod Answer
pub mod Question
pub mod Zones
pub mod Coefficient
pub mod ByHand
pub mod Held
