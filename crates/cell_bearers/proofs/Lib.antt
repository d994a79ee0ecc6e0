mod Reading
mod Stepping
mod Borne
mod Owned
mod Ordered
mod Rowing
mod Indexing
pub mod NamingLemmas
pub mod Sooner
mod FirstSeen
mod Answering
mod NearestLemmas
mod Stopping
pub mod Plain
