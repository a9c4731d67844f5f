pub mod Positions
