pub mod Answered
pub mod Driven
pub mod Fixed
pub mod Machine
pub mod Run
pub mod Shelf
pub mod StatusLine
