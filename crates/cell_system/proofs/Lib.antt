pub mod MoreNamespaces
pub mod Steps
pub mod SwapSaid
