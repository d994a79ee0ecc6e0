-- The links of cells, before and after.
pub mod FreshLinks
pub mod Growths
pub mod LinkSteps
pub mod LinksLeft
