pub mod Nodes
pub mod Machines
pub mod Worlds
pub mod Loads
pub mod Begun
