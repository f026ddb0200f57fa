pub mod Logs
pub mod Heads
pub mod Acts
pub mod Moves
pub mod Joined
