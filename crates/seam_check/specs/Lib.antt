pub mod Heads
pub mod Inputs
pub mod Judged
