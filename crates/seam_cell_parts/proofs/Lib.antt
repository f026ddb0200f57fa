pub mod SpotLemmas
pub mod SetLemmas
mod QueueLemmas
pub mod MarkLemmas
pub mod RealLemmas
pub mod NewsLemmas
pub mod HomeLemmas
pub mod SettleLemmas
