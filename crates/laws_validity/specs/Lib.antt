pub mod Asking
pub mod Makes
pub mod Before
pub mod Pending
