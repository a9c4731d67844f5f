pub mod Ends
pub mod Literals
mod Walks
