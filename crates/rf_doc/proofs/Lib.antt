pub mod Extending
pub mod Seen
pub mod Sequence
pub mod Store
mod Examples
