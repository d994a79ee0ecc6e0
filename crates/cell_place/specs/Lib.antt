pub mod Space
pub mod Runs
