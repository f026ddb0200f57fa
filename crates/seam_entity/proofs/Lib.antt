pub mod OrderLemmas
pub mod RealLemmas
pub mod ReadyLemmas
pub mod FitLemmas
pub mod HeldLemmas
pub mod CoverLemmas
