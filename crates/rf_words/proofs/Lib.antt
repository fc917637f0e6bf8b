mod Numerals
mod Taking
pub mod Ranges
mod Examples
