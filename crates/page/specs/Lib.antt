-- What comes of a text that is put into a lent buffer.
pub mod Writing
