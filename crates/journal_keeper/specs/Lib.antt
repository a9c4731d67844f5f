pub mod Calls
pub mod Faults
pub mod Images
pub mod Keeping
