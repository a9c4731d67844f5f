pub mod Bounds
pub mod Begins
pub mod Dates
pub mod Names
pub mod Rows
