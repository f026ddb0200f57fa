pub mod Views
pub mod Sends
pub mod Nets
pub mod Totals
pub mod Events
pub mod Inside
pub mod Orders
