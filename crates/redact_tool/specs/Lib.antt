pub mod Fronts
pub mod Redacting
