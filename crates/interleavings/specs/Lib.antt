pub mod Desks
pub mod Runs
pub mod Events
pub mod Lines
