pub mod Lengths
pub mod Tables
mod Examples
