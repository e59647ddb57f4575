-- The laws of pairs, each file by its name.
pub mod Units
pub mod Sizes
pub mod Sums
pub mod Order
