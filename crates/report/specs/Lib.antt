-- The text of the six lines, the report of a job, and what `totals` writes.
pub mod Lines
pub mod Report
pub mod Short
