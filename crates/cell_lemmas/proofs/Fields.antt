-- What linking writes, and that fields stand apart.
pub mod ChangedFits
pub mod FieldsApart
pub mod FieldsInside
pub mod Fitting
pub mod Fixed
pub mod Overwritten
pub mod Pastes
pub mod Patches
pub mod Regrown
pub mod Relinked
pub mod Relinks
pub mod Reshaped
pub mod Slices
pub mod Unchanged
pub mod Values
pub mod Writes
