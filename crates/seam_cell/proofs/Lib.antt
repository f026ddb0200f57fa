pub mod LoadLemmas
pub mod CellLemmas
