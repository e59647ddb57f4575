-- The laws of a field, and fields worked out.
pub mod Fields
pub mod Worked
