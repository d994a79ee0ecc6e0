pub mod Sound
pub mod Answered
pub mod Again
pub mod Cloned
