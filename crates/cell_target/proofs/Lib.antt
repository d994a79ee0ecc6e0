pub mod Lookups
pub mod Asking
pub mod Tabled
pub mod Seen
pub mod HighEntries
