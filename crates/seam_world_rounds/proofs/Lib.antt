mod Counting
mod Following
mod PlayedRounds
mod TextsPlayed
mod ScriptLemmas
mod Results
mod Worlds
mod RunLemmas
pub mod HeaderRuns
pub mod StormRuns
