pub mod Plain
pub mod Chosen
pub mod Best
pub mod Dearer
pub mod Paragraphs
pub mod MostPieces
pub mod Laws
