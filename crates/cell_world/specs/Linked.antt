-- What entries name, and what linking writes.
pub mod Field
pub mod Fit
pub mod Fresh
pub mod Linking
pub mod Relink
pub mod Target
