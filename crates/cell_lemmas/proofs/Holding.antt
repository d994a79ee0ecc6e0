-- Which cells are kept, and what a removal leaves.
pub mod AllKept
pub mod BytesLeft
pub mod Closures
pub mod Holders
pub mod KeptPaths
pub mod PathsLeft
pub mod Purged
pub mod Removals
pub mod RemoveCoherent
pub mod Settled
pub mod WordsLeft
