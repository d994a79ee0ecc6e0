pub mod Says
pub mod Feeds
pub mod Written
pub mod Around
mod Pairs
mod Long
mod Counts
