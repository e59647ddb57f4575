-- The laws of the newton column.
pub mod Gathered  -- faces put into a record one by one
pub mod AtChoice  -- the forces at a choice
pub mod ManyFaces  -- a list of faces, judged as its record
pub mod ReportLines  -- the axis and the side of a report line
pub mod OfCase  -- the forces in the case that an extreme shows
pub mod Shown  -- and these as they are handed over
pub mod Answered  -- refused, or shared out
