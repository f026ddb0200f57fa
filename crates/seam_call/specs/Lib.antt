pub mod BaseNodes
pub mod Senders
pub mod Calls
pub mod Boundaries
