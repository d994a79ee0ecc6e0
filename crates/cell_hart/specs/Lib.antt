pub mod Causes
pub mod Forms
pub mod Step
