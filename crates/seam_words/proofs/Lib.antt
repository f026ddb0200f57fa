pub mod Pieces
pub mod Runs
pub mod Prefixes
pub mod Scan
pub mod Reading
mod TextTables
pub mod WordTexts
