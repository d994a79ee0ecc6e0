pub mod Layout
pub mod Placing
pub mod Many
