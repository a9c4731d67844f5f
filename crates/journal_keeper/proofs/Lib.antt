pub mod Calls
pub mod Images
mod Kept
mod Syncs
