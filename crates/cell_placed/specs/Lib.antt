pub mod Keys
pub mod Low
