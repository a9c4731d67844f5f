mod Each
mod Numbering
