pub mod ReadParts
