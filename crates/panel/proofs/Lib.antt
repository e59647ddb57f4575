-- For the code: the gap between doubles, and products that lose nothing. For the reader: what doubles are worth and
-- how they are ordered, that the panel is right, that nothing else is, the same of newtons with a remainder, and the
-- panel at its edges.
pub mod Gap
pub mod Product
pub mod Worth
pub mod Negative
pub mod Order
pub mod Right
pub mod Unique
pub mod Apart
pub mod Cases
