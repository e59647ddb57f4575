-- What an edit of a worksheet comes to is what comes of its job, and the sums that it keeps are those of the job.
pub mod Bounds  -- how large the sums are that an edit moves
pub mod OneFace  -- the faces that an edit takes out and puts in
pub mod Exchange  -- a part taken out and a part put in
pub mod Answered  -- the answer to an edit
pub mod OpenedSums  -- the sums of a sheet
pub mod Stays  -- what stays through every edit
