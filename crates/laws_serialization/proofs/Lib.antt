pub mod Decimals
pub mod Numbers
pub mod Qualifiers
pub mod Timestamps
