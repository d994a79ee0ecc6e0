pub mod Fit
pub mod Scene
pub mod Asked
pub mod Entries
pub mod Linking
pub mod Indexed
pub mod Contents
