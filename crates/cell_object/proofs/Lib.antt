pub mod Between
pub mod Plain
