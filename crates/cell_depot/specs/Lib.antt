pub mod Files
pub mod Found
pub mod ObjectName
pub mod Shelves
pub mod Values
