pub mod Sorted
pub mod Ranks
pub mod Links
pub mod Kept
pub mod Hits
pub mod Strips
pub mod Counted
