pub mod Between
pub mod Loaded
pub mod LastPhases
pub mod Routes
pub mod SettledParts
pub mod OpeningExample
pub mod Prelude
