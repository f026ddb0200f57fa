pub mod HeldLemmas
pub mod OrderLaws
