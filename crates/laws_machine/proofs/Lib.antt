pub mod Lists
pub mod Replay
pub mod OnBase
pub mod Endings
pub mod Fronts
pub mod Means
pub mod Good
pub mod Masks
pub mod Histories
pub mod Conflicts
pub mod Once
pub mod Entries
mod Rows
mod EntryRows
