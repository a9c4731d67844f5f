pub mod Lists
pub mod Naming
pub mod OneRoot
pub mod Paths
pub mod Touching
