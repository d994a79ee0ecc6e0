pub mod Inside
pub mod Numbers
pub mod Ran
pub mod State
pub mod Turns
pub mod Slices
pub mod Clearing
