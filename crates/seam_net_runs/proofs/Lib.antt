pub mod Keeping
pub mod MapSums
pub mod Runs
pub mod Seeing
pub mod Soundness
pub mod Weighing
