pub mod Passing
pub mod Rounds
pub mod NameLemmas
pub mod Ends
pub mod Counting
