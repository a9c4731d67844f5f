pub mod Adding
pub mod Joining
pub mod First
