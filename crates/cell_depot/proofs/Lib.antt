pub mod NameParts
pub mod NameChanges
pub mod Located
pub mod Shelved
pub mod Depots
pub mod MorePlaces
pub mod NamesBefore
