pub mod Intake
pub mod ObjectFiles
pub mod OrderedNames
pub mod DistinctFiles
