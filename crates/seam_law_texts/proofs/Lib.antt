pub mod OneLine
pub mod Content
pub mod Writing
pub mod Spelling
pub mod Telling
pub mod Gathering
mod Places
mod Stones
pub mod Sequence
pub mod Beginnings
