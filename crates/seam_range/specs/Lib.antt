pub mod Locations
pub mod Indexed
pub mod Found
