pub mod Does
pub mod Machine
pub mod Same
pub mod Staged
pub mod Unknown
pub mod Namespaces
pub mod LinkOrder
