pub mod Books
pub mod Bringing
pub mod Going
pub mod LookUps
pub mod ExecutedRound
pub mod Standings
pub mod Playing
pub mod Prelude
