-- Laws of texts put into a buffer.
pub mod Put
