pub mod NumberLemmas
pub mod RingLemmas
mod Two
