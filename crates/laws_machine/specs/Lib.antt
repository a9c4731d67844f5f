pub mod Machine
pub mod Ranges
pub mod History
pub mod Entries
