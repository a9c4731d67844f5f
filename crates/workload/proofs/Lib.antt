pub mod Sessions
pub mod Additions
pub mod Lengths
