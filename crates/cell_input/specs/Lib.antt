pub mod Objects
pub mod Taking
