pub mod Counts
pub mod Cuts
pub mod InRows
pub mod Kept
pub mod Lookups
pub mod Spans
