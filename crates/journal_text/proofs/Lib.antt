mod Pieces
pub mod BlocksCross
mod LinesCross
mod ReadyLines
mod Scalars
mod Written
pub mod Lasts
pub mod Admits
pub mod Asked
pub mod After
pub mod Changed
pub mod Distinct
pub mod Fields
pub mod Makers
pub mod Named
pub mod Passes
pub mod Recorded
pub mod Feeds
pub mod Readings
pub mod LineReads
pub mod Growing
pub mod Fed
pub mod FirstFeed
pub mod TableSteps
pub mod Taken
