-- Turns, and what routines and undos do.
pub mod Execute
pub mod Memory
pub mod Move
pub mod Restart
pub mod Transfer
pub mod Turn
pub mod Undo
pub mod Words
