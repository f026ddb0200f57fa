mod Messages
mod Joins
mod Copies
pub mod Forgotten
