pub mod Transcripts
pub mod Following
pub mod PlayedRound
pub mod Script
pub mod Output
pub mod Histories
pub mod Storm
