pub mod Sweep
pub mod Removed
pub mod Begun
pub mod Unmapped
