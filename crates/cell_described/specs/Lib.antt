pub mod Fails
pub mod Taken
pub mod Faults
pub mod Objects
pub mod Finding
pub mod Placing
pub mod Standing
pub mod Describes
