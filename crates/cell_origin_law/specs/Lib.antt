pub mod Readings
pub mod Spelled
