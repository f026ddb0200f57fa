pub mod Held
pub mod Offers
