pub mod Adding
pub mod Items
pub mod Renewals
pub mod Counted
pub mod Cloning
