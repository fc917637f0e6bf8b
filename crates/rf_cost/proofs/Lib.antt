pub mod Sums
pub mod Reading
pub mod Layouts
pub mod Reflecting
pub mod Freed
mod Examples
