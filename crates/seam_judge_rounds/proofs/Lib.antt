mod Agreeing
mod AllPoints
mod Balancing
mod ClientLists
mod Executed
mod Grouping
mod Held
mod Homes
pub mod Leaves
mod Leaving
mod Members
mod Pieces
mod Rightly
mod Settling
mod ShownLines
mod Told
mod Truths
