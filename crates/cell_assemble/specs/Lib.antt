pub mod RefusalLine
pub mod SourceImage
pub mod Assembling
