pub mod Ends
pub mod Starts
pub mod Turns
pub mod Rounds
