-- Faces moved in a record, the line of a face, and that an accepted edit leaves an accepted job.
pub mod Held
pub mod Line
pub mod Counts
pub mod Checks
pub mod Accepted
pub mod AtFace
pub mod NewFace
