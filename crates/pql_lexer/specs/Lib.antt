pub mod Lexing
