pub mod Lines
pub mod Count
pub mod SeenWords
pub mod Items
pub mod Said
pub mod Routines
