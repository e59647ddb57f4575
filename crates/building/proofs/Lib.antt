-- The laws of a building in order, of its places, and of a question about one of them.
pub mod Six
pub mod Machine
pub mod Ranges
pub mod Ratios
pub mod Roofs
pub mod Tested
pub mod Accepted
pub mod Places
pub mod Judged
pub mod Readings
