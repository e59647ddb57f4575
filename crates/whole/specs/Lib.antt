-- Rounding, fractions in lowest terms, a total as whole newtons with a remainder, numbers in digits, and lists.
pub mod Round
pub mod Lowest
pub mod Newton
pub mod Digits
pub mod Lists
