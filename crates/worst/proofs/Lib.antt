-- The laws, from the best of a list up to what was promised of a job.
-- ---- the best of a list, for either side
pub mod Sides  -- of two values, which falls short
pub mod Better  -- the better of two bests, and of a list of lists
pub mod Meaning  -- what the best is, and that it is one
-- ---- cases
pub mod Members  -- which cases there are
pub mod Scale  -- the pressure number as a factor of a sum
pub mod Growth  -- more winds, more internal coefficients, faster winds
pub mod Quick  -- the quick way finds the worst of all cases
pub mod Without  -- a wind that the worst case does not have, left out
-- ---- numbers and lists as the code has them
pub mod Padded  -- arrays filled from their start
pub mod StoredSums  -- stored cells
pub mod InBounds  -- and the test of their bounds
pub mod ReadBack  -- a signed result read back
pub mod AtHeight  -- the factor at a height, and the speed there
pub mod Climb  -- the factor within a rising profile
pub mod Factors  -- the factors of all faces
pub mod Kept  -- the better of an earlier and a later cell
pub mod InsideSides  -- the furthest cell of a wind
pub mod Table  -- the table of coefficients
pub mod Ranges  -- how large every number can be
-- ---- from one face to all cells
pub mod OneFace  -- the best of its alternatives
pub mod SixNumbers  -- the numbers of a face, stored
pub mod LentFaces  -- faces as numbers in a lent list
pub mod MovedOver  -- newtons and units of one amount
pub mod SumsGrow  -- how large the sums are
pub mod Added  -- faces added up
pub mod CarriedFaces  -- faces without their heights
pub mod Found  -- a job has a best cell
pub mod AllCells  -- which is what stored sums tell, and its own the worst of all its cases
-- ---- jobs
pub mod Demand  -- the third demand, for what a job gives
pub mod Accepted  -- what an accepted job gives
pub mod JobSums  -- the sums of a job
pub mod FourCells  -- the cells of one wind
pub mod ProperSums  -- stored sums that a job can have
pub mod Parts  -- stored sums, by the parts of the faces
pub mod SumsWithin  -- and how large they are
pub mod Promises  -- the third demand, for accepted jobs
pub mod Dropped  -- a wind that no extreme names
pub mod ReadSheet  -- a sheet that was read
pub mod Reckoned  -- refused, or accepted as what it carries
pub mod PerFace  -- the forces of each face under a wind and an internal coefficient
pub mod Rows  -- and these handed over, row by row
pub mod FaceUnder  -- one face under one wind
