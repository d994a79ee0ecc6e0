pub mod Grammar
pub mod Script
