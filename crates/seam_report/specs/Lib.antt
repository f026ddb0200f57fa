pub mod RoundParts
pub mod Spelled
