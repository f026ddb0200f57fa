pub mod Last
pub mod Commands
pub mod Entities
pub mod Judging
pub mod Batches
pub mod BookView
pub mod Refines
