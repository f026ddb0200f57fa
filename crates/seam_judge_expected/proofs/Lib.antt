pub mod ListedLemmas
mod Walks
mod Versions
mod Settlings
