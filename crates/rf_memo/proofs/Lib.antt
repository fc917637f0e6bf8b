pub mod Entries
pub mod Pages
mod Examples
