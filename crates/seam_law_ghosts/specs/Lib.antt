pub mod Tasks
pub mod Entries
pub mod GhostMoves
pub mod Truths
pub mod RealPlaces
pub mod Copies
pub mod Prelude
