pub mod Told
pub mod Updates
