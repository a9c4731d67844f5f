mod Appends
pub mod Bounds
pub mod Commits
pub mod Digests
pub mod Drawn
mod Imaging
mod Joined
mod Kept
pub mod LastBlock
pub mod Openings
pub mod OfDrafts
mod Others
mod Standings
mod Steps
