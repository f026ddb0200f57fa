mod Members
pub mod Made
mod States
mod Executed
mod Entities
mod Views
pub mod Clients
mod Bounds
pub mod Rounds
