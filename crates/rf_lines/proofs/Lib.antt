pub mod Behind
pub mod Texts
pub mod Between
pub mod Rows
pub mod Slots
pub mod LedSlots
pub mod NodesAt
mod Examples
