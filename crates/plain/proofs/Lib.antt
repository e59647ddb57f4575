-- The laws, from the numbers of a face to the walk over every case of a job.
pub mod Added  -- a case, face by face
pub mod Keeping  -- what is kept of an earlier case and a later one
pub mod Choosing  -- every choice by its number
pub mod Upto  -- the best of those with the numbers up to n
pub mod Rows  -- the forces of a job's faces, as the code is handed them
pub mod EveryCase  -- every choice of every cell is every case
pub mod AnyOf  -- whether one of a list has something
