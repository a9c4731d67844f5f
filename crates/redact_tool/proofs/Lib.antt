pub mod Fronts
pub mod Sets
pub mod Parts
