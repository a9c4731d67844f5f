pub mod Actions
pub mod Demands
pub mod Permission
pub mod ReadRules
pub mod Answers
pub mod Scripts
