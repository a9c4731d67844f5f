pub mod OnePair
pub mod Stops
pub mod Walks
