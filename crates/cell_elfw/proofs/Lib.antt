pub mod Numbers
pub mod Growth
pub mod Stages
pub mod Grouped
pub mod Whole
pub mod Unpadded
