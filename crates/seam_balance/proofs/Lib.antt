pub mod Convex
pub mod Range
pub mod Counts
pub mod Within
pub mod Best
pub mod Turns
pub mod One
pub mod Search
