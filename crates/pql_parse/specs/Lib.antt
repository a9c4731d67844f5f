pub mod ClosedStatements
pub mod Parts
pub mod Ruled
pub mod Scoped
