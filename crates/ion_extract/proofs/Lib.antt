pub mod Arms
pub mod Cases
pub mod Frames
pub mod Hashes
pub mod Levels
pub mod Structs
pub mod Walks
