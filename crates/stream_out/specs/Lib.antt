pub mod Records
pub mod ReadRecords
pub mod Streams
pub mod Named
pub mod Same
pub mod Replays
