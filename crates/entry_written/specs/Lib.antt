-- The fields of an entry.
pub mod Fields
