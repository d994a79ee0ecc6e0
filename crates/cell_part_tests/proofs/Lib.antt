pub mod Sample
pub mod Stack
