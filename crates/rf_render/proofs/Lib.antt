mod Spaces
pub mod Writing
mod Examples
