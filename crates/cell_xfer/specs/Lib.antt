pub mod Carried
pub mod Named
pub mod Ran
pub mod Transfers
pub mod Written
