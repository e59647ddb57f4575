-- The newton column of a job for one line of its report. `OneByOne` serves private contracts alone.
pub mod Listed
pub mod OneByOne
pub mod Setting
pub mod Column
