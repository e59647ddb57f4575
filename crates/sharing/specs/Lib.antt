-- Whole newtons that add up: how a column is made, and what is asked of one.
pub mod Column
pub mod Fair
