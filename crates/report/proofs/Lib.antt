-- The laws of the lines' text, and of a report as its job is judged.
pub mod Lines
pub mod Lengths
pub mod Reports
