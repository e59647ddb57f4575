-- Laws of a job that is written, section by section and line by line.
pub mod Puts
pub mod Judged
