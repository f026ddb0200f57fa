pub mod Words
pub mod SplitWords
pub mod Faults
pub mod WordParts
pub mod Numbers
