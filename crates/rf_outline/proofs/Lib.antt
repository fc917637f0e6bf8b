pub mod Concats
pub mod Choices
pub mod Holds
pub mod Sequences
pub mod Tellings
mod Examples
