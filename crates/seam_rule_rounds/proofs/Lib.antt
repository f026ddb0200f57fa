pub mod Public
pub mod Shown
pub mod WithoutTick
pub mod TwoChestsLegal
pub mod Edges
pub mod Lines
mod Asking
pub mod Beginning
mod Counts
mod Inputs
mod Moved
pub mod Pieces
mod Plain
mod SameRounds
mod Storm
