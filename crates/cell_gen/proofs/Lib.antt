pub mod Decimals
pub mod Pieces
pub mod ScriptReads
pub mod Names
pub mod Sizes
pub mod Crates
