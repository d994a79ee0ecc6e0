pub mod Linked
pub mod Tables
pub mod Applied
pub mod LinksBy
