pub mod Columns
pub mod Table
pub mod Defaults
pub mod Laws
pub mod Props
