mod Ids
mod Names
pub mod Standing
mod Versioned
