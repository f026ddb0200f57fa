pub mod Worlds
pub mod Nodes
pub mod Loading
pub mod Fitting
pub mod Opened
