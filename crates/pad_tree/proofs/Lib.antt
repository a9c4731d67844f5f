pub mod Room
pub mod Next
pub mod Paired
pub mod Pairs
pub mod PathLevels
pub mod Folding
pub mod Growth
pub mod Towers
pub mod AtOnce
mod Rows
