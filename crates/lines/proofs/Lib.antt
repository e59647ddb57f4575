-- The laws, each file by the definitions that it is about; `Round` has those of text read and written again.
pub mod Lines
pub mod Held
pub mod Filled
pub mod Round
pub mod Worked
