pub mod Outcome
pub mod Ends
pub mod Cover
pub mod Fields
pub mod Names
pub mod Kept
