pub mod Countable
pub mod Each
pub mod Grouped
pub mod Moments
