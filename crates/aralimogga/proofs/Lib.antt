-- What comes of a sheet that was read.
pub mod Readings
