pub mod Marks
pub mod PartLemmas
pub mod ReadyUpdates
pub mod RouteLemmas
pub mod NodeLemmas
pub mod RoundMarks
