-- The laws, each file by what it is about.
pub mod Fields
pub mod Numbers
pub mod Observation
pub mod PendingLines
pub mod Taken
pub mod Steps
pub mod ByLines
pub mod LastLine
pub mod Closing
pub mod Sums
pub mod Counting
pub mod Standing
pub mod Worked
