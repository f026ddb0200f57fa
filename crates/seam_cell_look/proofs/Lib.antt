pub mod LookLemmas
pub mod NearLooks
pub mod NearLemmas
pub mod ToldLemmas
