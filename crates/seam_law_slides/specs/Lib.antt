pub mod Rounds
pub mod Awaited
pub mod Resting
pub mod Sliding
pub mod SlideExample
pub mod Prelude
