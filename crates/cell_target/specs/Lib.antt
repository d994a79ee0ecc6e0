pub mod Scene
pub mod Entries
pub mod Named
pub mod Asking
pub mod Highs
