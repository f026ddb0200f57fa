pub mod Clients
pub mod Looks
pub mod Lines
pub mod WalkOutExample
