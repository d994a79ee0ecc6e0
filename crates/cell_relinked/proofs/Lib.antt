pub mod Gotten
mod InsideTargets
mod Chaining
mod Providing
mod Lacking
pub mod Provided
mod Naming
pub mod Earlier
pub mod Seeing
pub mod Moving
pub mod Fitting
pub mod Bridging
mod FirstSeen
mod Counting
pub mod OneField
mod ManyFields
pub mod Sizes
