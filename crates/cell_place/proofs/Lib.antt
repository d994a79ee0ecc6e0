pub mod Filling
pub mod Table
