pub mod RoundRuns
pub mod CallPhase
