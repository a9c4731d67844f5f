pub mod KeyOrder
pub mod Levels
pub mod Pairs
pub mod Ranges
