pub mod Merges
mod SeenLemmas
