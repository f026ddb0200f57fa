pub mod Prefixes
pub mod PrintLemmas
pub mod Completing
pub mod HeaderRuns
