pub mod Filtered
pub mod Joined
pub mod Keyed
