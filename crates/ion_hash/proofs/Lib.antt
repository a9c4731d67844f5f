pub mod Order
pub mod Plain
