pub mod Made
pub mod Sums
pub mod Laws
