pub mod Due
pub mod Verdicts
pub mod Kept
