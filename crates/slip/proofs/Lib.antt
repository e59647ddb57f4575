-- Laws of the parts of a text, and of the first field of a line that is out of form.
pub mod Split
pub mod Out
pub mod Held
pub mod Walked
