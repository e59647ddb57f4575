-- What a field says.
pub mod Field
