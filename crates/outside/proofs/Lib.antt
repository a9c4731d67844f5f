mod Images
pub mod Answered
pub mod Kept
pub mod Scanned
pub mod Untold
mod Noted
