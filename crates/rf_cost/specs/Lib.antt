pub mod Factories
pub mod Numbers
pub mod Lawful
pub mod Reading
pub mod Kinds
