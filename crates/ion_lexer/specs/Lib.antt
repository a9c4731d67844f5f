pub mod Blobs
pub mod Exponents
pub mod Marks
pub mod Pieces
pub mod Quotes
