pub mod Pages
pub mod Rendered
pub mod Faults
