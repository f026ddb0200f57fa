pub mod Replicas
pub mod LookParts
