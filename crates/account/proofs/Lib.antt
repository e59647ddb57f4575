-- The laws of an account.
pub mod Alternatives  -- the coefficient of an alternative
pub mod InColumn  -- newtons read off a column
pub mod Case  -- the case that a report line shows
pub mod Bounds  -- how large its numbers are
pub mod Together  -- the steps of one face, put together
pub mod Answered  -- refused, or accounted for
-- ---- what was promised of it
pub mod Product  -- each force is net × pressure × area
pub mod Shown  -- the forces of a line, face by face
