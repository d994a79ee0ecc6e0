-- What a change decides before anything changes: its cells, who uses the old ones, what changes in them.
pub mod AddressesSaid
pub mod Began
mod BeginsBy
mod BeginsPlain
pub mod Bystanders
pub mod Came
pub mod ChangeLanded
pub mod Covered
pub mod GatheredFor
pub mod HasEntry
pub mod LeftAlone
pub mod LinksLead
pub mod Naming
pub mod OldRivals
pub mod OldStates
pub mod Originals
pub mod PlanSteps
pub mod Planned
pub mod ReadyPlaces
pub mod Rows
pub mod UserChanges
pub mod Users
pub mod Wanting
