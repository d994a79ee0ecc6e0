pub mod Begins
pub mod Placed
