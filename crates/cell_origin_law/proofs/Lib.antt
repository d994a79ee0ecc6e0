pub mod Names
pub mod FileNames
pub mod Numbers
pub mod Changes
pub mod Commands
