pub mod Types
pub mod Texts
pub mod Values
pub mod Numerals
pub mod Causes
pub mod NumberWords
