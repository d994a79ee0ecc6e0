pub mod AlikeTransfer
mod Answered
pub mod Answering
mod NameTables
mod Reading
mod Running
mod Turning
mod Unrolled
pub mod Writing
mod CarriedOver
