mod Bases
mod Entries
mod InTurn
mod Looking
mod Steps
mod Walks
