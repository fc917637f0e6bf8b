pub mod Counting
pub mod LineCosts
mod Ends
mod Examples
