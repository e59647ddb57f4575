-- The text of a sheet and what it says, with a record or without one, and the text of a job put into a lent buffer.
pub mod Sheet
pub mod Head
pub mod Parts
pub mod Said
