pub mod Bounds
pub mod Layouts
pub mod Runs
pub mod Placings
pub mod ManyCells
pub mod Settled
