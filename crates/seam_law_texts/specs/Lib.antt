pub mod Words
pub mod TextLines
pub mod Forms
pub mod Example
