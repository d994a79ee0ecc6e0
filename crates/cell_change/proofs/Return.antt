-- The way back.
pub mod FieldsUndone
pub mod GoneBack
pub mod LinksBack
pub mod MemoryBack
pub mod Returning
pub mod TableBack
