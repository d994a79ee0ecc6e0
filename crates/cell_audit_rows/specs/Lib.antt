pub mod Slots
pub mod Dumped
pub mod Damaged
