pub mod Firsts
pub mod ItemTurns
pub mod Known
pub mod OpenedSources
pub mod OpenedStatements
pub mod SourceTables
pub mod SourceTurns
mod ResolvedNames
