-- What a double is, what is right for the panel, how it is reckoned, the chart point, and both of newtons with a
-- remainder.
pub mod Double
pub mod Right
pub mod Bracket
pub mod Chart
pub mod Pairs
