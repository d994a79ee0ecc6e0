pub mod Lower
pub mod Asked
