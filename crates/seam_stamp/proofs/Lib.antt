pub mod Orders
pub mod Moves
mod Runs
pub mod Whole
