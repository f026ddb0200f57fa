pub mod Counters
pub mod Rings
pub mod Views
