pub mod Commands
pub mod Counts
pub mod KeepsTargets
pub mod Progress
pub mod Worked
pub mod Recovery
