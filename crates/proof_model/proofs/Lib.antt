pub mod Inverses
pub mod Chains
pub mod Ends
pub mod Accepted
pub mod Rows
