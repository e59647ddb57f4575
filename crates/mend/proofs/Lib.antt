-- The laws, each file by what it is about; `Worked` has texts worked out.
pub mod LooksAhead
pub mod Steps
pub mod Counted
pub mod Filling
pub mod Sifted
pub mod Passes
pub mod Quiet
pub mod QuietPasses
pub mod Again
pub mod Untouched
pub mod Received
pub mod Answered
pub mod Places
pub mod Restoring
pub mod Telling
pub mod Worked
