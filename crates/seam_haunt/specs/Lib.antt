pub mod Haunts
pub mod Places
pub mod Telling
