pub mod Climbs
pub mod Extracts
