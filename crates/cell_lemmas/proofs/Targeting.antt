-- What entries name, and which of them name something else after a change.
pub mod Affected
pub mod Detached
pub mod Plain
pub mod Present
pub mod SameSection
pub mod Steps
pub mod Targets
pub mod TargetsLeft
pub mod Untouched
pub mod UntouchedSteps
pub mod Viewed
