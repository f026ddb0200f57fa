mod SettingsLemmas
mod Counts
mod Depths
mod FaultOrder
mod Eaches
mod OperationLemmas
mod Uniqueness
mod AnswerLemmas
mod Soundness
mod Existence
pub mod HeaderLaws
pub mod EmptyHeader
