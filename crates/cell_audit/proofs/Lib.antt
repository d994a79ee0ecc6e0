pub mod Ends
pub mod Clean
pub mod Knowing
pub mod Finding
mod Telling
mod Cells
mod Memory
mod Keeping
pub mod Rows
mod Spaced
pub mod Refused
