-- What the fields of a line say; and faces as plain numbers.
pub mod Says
pub mod Flat
