pub mod Lookups
pub mod KeptLemmas
mod RoundLemmas
pub mod StepLemmas
mod CallLemmas
mod ReadyLemmas
mod ArriveLemmas
mod SurveyLemmas
