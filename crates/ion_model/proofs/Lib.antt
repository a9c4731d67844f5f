pub mod Depths
pub mod Lengths
mod NumberRows
mod ReadRows
mod TextRows
mod TextsUtf8
mod WriteRows
