pub mod Checks
pub mod Frames
pub mod Fronts
pub mod Pieces
