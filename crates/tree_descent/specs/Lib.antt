pub mod Collisions
pub mod Pairs
pub mod Ways
