pub mod Calling
pub mod Arriving
pub mod Beginning
pub mod Surveying
