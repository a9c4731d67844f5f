pub mod Lists
pub mod Names
pub mod Holding
pub mod Keeps
pub mod Passes
pub mod Growing
pub mod Own
