-- An observation and where it stands, the rose of a file and what it is to be it, a line that is not ended, and a rose
-- under way.
pub mod Observation
pub mod StandsIn
pub mod Rose
pub mod IsRose
pub mod Pending
pub mod Taken
