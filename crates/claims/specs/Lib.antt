-- What the demands speak of, beside the definitions of the other crates.
pub mod Contract
pub mod Written
pub mod Mended
pub mod Decimal
pub mod Fault
pub mod Question
pub mod Edit
pub mod Sums
pub mod Total
pub mod Shown
pub mod Dropped
pub mod Doubles
pub mod Column
