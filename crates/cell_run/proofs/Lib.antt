pub mod Going
pub mod Steps
pub mod Telling
pub mod Inputs
pub mod Words
pub mod Whole
