pub mod Siblings
pub mod Copied
pub mod Gathering
pub mod Placing
pub mod Planning
mod Answered
mod Torn
pub mod Steps
pub mod Added
pub mod Ending
pub mod Asking
pub mod Lost
pub mod Plain
pub mod Settled
mod Begins
pub mod Again
pub mod EntryStays
mod Strict
mod Uncovered
pub mod Untouched
