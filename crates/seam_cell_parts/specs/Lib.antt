pub mod Sets
pub mod Queues
pub mod Spots
pub mod Kept
pub mod News
pub mod Settling
pub mod Stepping
