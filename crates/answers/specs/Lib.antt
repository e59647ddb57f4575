-- What the records of a host program in C say.
pub mod Answers
