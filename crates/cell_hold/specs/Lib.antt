pub mod Roots
pub mod Places
pub mod Spots
pub mod Spans
pub mod Adds
pub mod Reached
pub mod Uses
