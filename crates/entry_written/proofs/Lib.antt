-- Laws of a number as a field.
pub mod Slots
