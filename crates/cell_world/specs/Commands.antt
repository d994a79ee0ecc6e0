-- What each command does.
pub mod Asked
pub mod DumpAllCommand
pub mod DumpCommand
pub mod FindCommand
pub mod LinkCommands
pub mod MapCommand
pub mod NsCommand
pub mod Recovery
pub mod SpawnCommand
pub mod SwapTransfer
pub mod TaskCommands
pub mod UnloadCommand
