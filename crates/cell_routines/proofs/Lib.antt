pub mod SymbolPlaces
pub mod BeginPlaces
pub mod DefinitionRows
pub mod Named
pub mod Lows
pub mod Steps
pub mod Standing
