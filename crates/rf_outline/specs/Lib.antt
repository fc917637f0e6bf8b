pub mod Known
pub mod Parts
pub mod Sequences
pub mod Documents
pub mod Outlined
