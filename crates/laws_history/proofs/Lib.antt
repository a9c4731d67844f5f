pub mod Lists
pub mod Numbers
pub mod Places
pub mod Histories
pub mod NextBlocks
pub mod BlocksFit
pub mod Stored
pub mod Reaches
pub mod Makes
pub mod Grown
pub mod Tells
pub mod Links
pub mod Told
pub mod Dealt
pub mod Sealed
pub mod Serial
pub mod Asked
pub mod Owners
pub mod Order
pub mod Fitting
pub mod Tried
pub mod Pairs
pub mod Made
mod Denials
pub mod NoConflicts
pub mod InRows
pub mod InOrder
pub mod Passes
pub mod Driving
pub mod Steps
pub mod Refusals
mod RunRows
mod WrongRuns
