pub mod Commit
pub mod Seals
pub mod Cells
pub mod Rewiring
