pub mod Moved
pub mod Paragraphs
pub mod Laws
