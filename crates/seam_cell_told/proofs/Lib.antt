pub mod ToldAgain
pub mod UpdateLemmas
