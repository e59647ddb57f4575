-- The plain reckoning. All but `Plain` serves private contracts alone.
pub mod Plain
pub mod ByNumber
pub mod Walked
