pub mod Book
pub mod Joined
