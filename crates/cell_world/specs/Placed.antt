-- Where sections stand.
pub mod Layout
pub mod Pages
pub mod Place
