-- That the first bytes of an input decide its answer, and that no answer is long.
pub mod Decided
pub mod Short
