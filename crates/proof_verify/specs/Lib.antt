pub mod Bundles
pub mod Faults
