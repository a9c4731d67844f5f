pub mod Lists
pub mod Lines
pub mod Steps
pub mod Images
pub mod Moments
mod Rows
