pub mod Seed
