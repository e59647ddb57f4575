-- A total as a pair.
pub mod Total
