pub mod Linking
pub mod Stages
pub mod Places
pub mod Adding
