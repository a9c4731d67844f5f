pub mod Lists
mod Thinned
pub mod Latest
mod Ids
pub mod Shapes
mod Statements
pub mod Hashes
mod Depths
pub mod Parts
pub mod Journals
mod Tables
mod Views
mod Following
pub mod Redacted
pub mod States
mod Ready
mod Progress
mod Unredacted
pub mod Asking
mod Changes
mod Revisions
mod Revised
mod Effects
mod Creates
mod SchemaChanges
mod Redacting
mod Writes
mod Inserts
mod Selects
mod Runs
mod Headers
mod Follows
mod Whole
mod Blocks
mod RedactionsMade
pub mod Undamaged
pub mod Further
mod Rows
