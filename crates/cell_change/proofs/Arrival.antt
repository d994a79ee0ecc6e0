-- The new cells are there: what the routines do, what holding is read from, what is taken away.
pub mod Beginning
pub mod BegunAgain
pub mod ChangeEnded
pub mod ChangeLeft
pub mod ChangeOutlook
pub mod ChangeRuns
pub mod Renewing
mod RoutinesRun
mod StackOpen
pub mod StillDetached
pub mod Suspended
pub mod Sweeping
pub mod Tried
