-- The form of a line, the faults of each entry by its values, the sections as data, and the fault of one line.
pub mod Form
pub mod Faults
pub mod Sections
