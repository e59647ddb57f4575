-- What it is to be accepted, and to be refused.
pub mod Verdict
