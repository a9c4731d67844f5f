pub mod Joins
pub mod Lent
pub mod Rules
pub mod Sides
