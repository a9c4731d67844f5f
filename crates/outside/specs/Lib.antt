pub mod Causes
pub mod Clocks
pub mod FailPlan
pub mod JournalFiles
pub mod Memory
pub mod Store
pub mod StoreForms
pub mod Told
