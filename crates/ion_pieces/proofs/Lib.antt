pub mod FramesWithin
pub mod Holding
pub mod Kept
pub mod Led
pub mod Quoted
pub mod Stays
pub mod Steps
pub mod Utf8
mod Rows
