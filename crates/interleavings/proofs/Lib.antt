pub mod Answered
pub mod Fresh
pub mod Lists
pub mod Places
pub mod Running
pub mod Telling
mod Grouped
