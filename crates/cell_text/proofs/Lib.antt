pub mod Splits
pub mod Decimal
pub mod Hexadecimal
pub mod Spans
