pub mod Slots
pub mod LowerSound
pub mod Kept
pub mod AskedSlots
pub mod Adding
pub mod LowerLoadable
pub mod Numbered
pub mod Building
