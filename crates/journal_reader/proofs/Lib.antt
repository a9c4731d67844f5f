pub mod Bounds
mod Ends
mod Filled
mod Leaves
mod Lines
mod Read
