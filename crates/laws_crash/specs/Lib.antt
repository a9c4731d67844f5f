pub mod Pending
pub mod Lines
pub mod Sound
pub mod Steps
pub mod Passed
