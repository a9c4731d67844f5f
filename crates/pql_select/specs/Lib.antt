pub mod Folds
pub mod Taken
