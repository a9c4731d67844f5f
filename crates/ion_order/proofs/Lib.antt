pub mod ByValue
pub mod KeyOf
pub mod Ranges
pub mod Scalars
pub mod Scaling
pub mod Zeros
