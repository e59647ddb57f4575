-- The laws of the records for C.
pub mod Reckoned  -- a line of what was reckoned
