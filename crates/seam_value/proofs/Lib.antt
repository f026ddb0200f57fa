pub mod Decimals
pub mod Signs
pub mod Spellings
pub mod Magnitudes
pub mod Answers
pub mod NumberWords
