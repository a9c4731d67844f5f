pub mod Firsts
mod Indexes
pub mod Naming
pub mod Once
mod SourcesRead
