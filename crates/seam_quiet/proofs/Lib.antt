mod Counts
mod Phases
