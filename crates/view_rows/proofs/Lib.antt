pub mod Latest
pub mod Live
pub mod Naming
pub mod Shown
