pub mod Residents
pub mod Finding
pub mod RoundParts
pub mod Told
pub mod Farewells
pub mod Sums
pub mod Printing
pub mod Worlds
