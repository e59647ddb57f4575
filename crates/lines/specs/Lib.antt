-- A text as lines of fields, and how a line is held.
pub mod Lines
pub mod Held
