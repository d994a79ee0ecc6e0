pub mod Walk
pub mod Left
pub mod Shown
pub mod Asking
pub mod Said
