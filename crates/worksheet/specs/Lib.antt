-- A sheet opened as a worksheet, and a worksheet after an edit. `FromParts` serves private contracts alone.
pub mod Kept
pub mod Worksheet
pub mod FromParts
