pub mod Digits
mod SerializeRows
pub mod UtcDates
pub mod StructHash
