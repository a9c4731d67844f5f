pub mod Chained
pub mod Issued
pub mod ReadProofs
pub mod ProofValues
pub mod Verified
