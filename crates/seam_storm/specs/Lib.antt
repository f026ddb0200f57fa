pub mod Inside
pub mod Storm
pub mod Views
