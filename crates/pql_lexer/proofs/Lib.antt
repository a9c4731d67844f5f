pub mod DecimalDigits
pub mod LexTurns
pub mod QuotedBytes
