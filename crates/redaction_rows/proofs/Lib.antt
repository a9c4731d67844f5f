mod Rows
mod InfoHash
