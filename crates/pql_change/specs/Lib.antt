pub mod Contexts
pub mod Edits
pub mod OneRoot
pub mod Touched
