-- What a job's text is stands in the crate sheet; here is what the code that puts it needs to say of a record.
pub mod Roomed
