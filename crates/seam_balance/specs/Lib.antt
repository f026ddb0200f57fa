pub mod Order
pub mod Balance
