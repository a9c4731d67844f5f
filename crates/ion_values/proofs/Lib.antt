pub mod Counts
pub mod Days
pub mod Induction
pub mod Matching
pub mod Relation
pub mod Years
