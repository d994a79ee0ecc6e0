mod NextCoherent
mod Others
mod Progress
mod Worked
mod Windows
mod Laid
pub mod Parts
pub mod Fresh
pub mod FreshSaid
mod Counted
mod CountsLoad
mod CountsRemoval
mod CountsChange
pub mod Counts
mod FilesSound
mod OwnItems
mod OwnFiles
mod Recovered
mod KeptAgain
