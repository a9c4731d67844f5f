pub mod Imaged
pub mod Addresses
pub mod First
pub mod Holding
mod Rows
