pub mod Gathering
pub mod Appending
pub mod Choosing
pub mod Growing
pub mod Reading
pub mod Renaming
pub mod Copying
