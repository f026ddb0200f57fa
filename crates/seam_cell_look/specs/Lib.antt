pub mod Looking
pub mod Near
