pub mod Known
pub mod Merging
