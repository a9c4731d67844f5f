pub mod Digits
pub mod Found
pub mod Milliseconds
mod Rows
