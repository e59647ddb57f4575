-- The laws of one verdict after another.
pub mod After
