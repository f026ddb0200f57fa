pub mod Pos
pub mod Rect
