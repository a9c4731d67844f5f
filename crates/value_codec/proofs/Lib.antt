pub mod Each
pub mod Inverse
pub mod SmallParts
pub mod Fields
