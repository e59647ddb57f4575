-- The laws of the text of lines.
pub mod Texts
