pub mod Closed
pub mod Fronts
pub mod Gives
pub mod Layers
pub mod Parts
