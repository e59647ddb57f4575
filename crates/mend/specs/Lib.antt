-- A text mended, the list of its changes, what comes of it in two lent buffers, and how it is undone. `OneWalk` serves
-- private contracts alone.
pub mod Mended
pub mod Changes
pub mod Mending
pub mod Told
pub mod Restored
pub mod OneWalk
