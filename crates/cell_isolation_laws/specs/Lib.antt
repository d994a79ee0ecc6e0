pub mod Touches
pub mod Footprint
pub mod Copies
