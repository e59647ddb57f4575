-- A building: its numbers and their faults, the roofs by kind, the zones, locals and directions that a roof has, and
-- what a question about one place is refused for.
pub mod Test
pub mod Year
pub mod Fault
pub mod Ratio
pub mod Roof
pub mod Building
pub mod Order
pub mod Places
pub mod Question
