pub mod Braces
pub mod Digits
pub mod Inner
pub mod Marks
pub mod Reading
pub mod Segments
pub mod Small
pub mod Spelling
