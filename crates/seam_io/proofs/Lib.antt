pub mod Again
pub mod Copies
pub mod LineLemmas
pub mod RangeLemmas
pub mod StepLemmas
pub mod ReadLemmas
