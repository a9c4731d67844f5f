pub mod Arithmetic
pub mod Compare
pub mod Key
pub mod Laws
pub mod Numbers
