mod Arena
mod Calling
mod Ending
mod Places
pub mod Standing
mod Turning
pub mod Slicing
pub mod Wording
mod Restarting
mod Zeroing
mod Cleared
