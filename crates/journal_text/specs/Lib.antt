pub mod OneLine
pub mod Stands
pub mod Laws
pub mod Lines
pub mod Reading
pub mod Feeding
pub mod Shares
