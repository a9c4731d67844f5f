pub mod ReadBack
pub mod Hashed
