pub mod Parts
pub mod Routes
pub mod Marks
pub mod Nodes
pub mod Machines
