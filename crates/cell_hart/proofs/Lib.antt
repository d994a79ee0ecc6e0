pub mod Alike
pub mod Sizes
pub mod Stores
pub mod Undo
pub mod Known
pub mod Puts
