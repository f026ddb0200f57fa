mod NamingLemmas
mod CommandLemmas
mod Causes
mod CreateLemmas
mod ArgLemmas
mod NamedEntities
mod CallLemmas
pub mod Books
mod TreeLemmas
mod ClientLemmas
mod ClientCounts
mod Keeping
mod Lines
