pub mod Boundary
pub mod Division
pub mod Change
pub mod Cells
pub mod Table
pub mod Marks
pub mod Inverse
