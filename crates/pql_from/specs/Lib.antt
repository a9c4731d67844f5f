pub mod Held
pub mod Joins
pub mod Kept
pub mod Behind
