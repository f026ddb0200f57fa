pub mod Chosen
pub mod Around
pub mod Settling
mod Resting
