pub mod Kept
pub mod Seen
pub mod Sound
pub mod Sums
pub mod Weights
pub mod Finishing
