-- The laws of faces as plain numbers.
pub mod Flat
