-- From a record to what its sheet carries, from there to lines of fields, and how lines of fields are judged and
-- read; and what is accepted.
pub mod Carried
pub mod Lines
pub mod Walk
pub mod FirstFault
pub mod InOrder
pub mod Judging
pub mod Setting
