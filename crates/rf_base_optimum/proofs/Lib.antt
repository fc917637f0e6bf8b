pub mod Frontier
pub mod Choosing
pub mod Shift
pub mod Pruning
pub mod Optimum
pub mod Cores
pub mod CoreChoices
pub mod Dearer
pub mod Sequences
pub mod Seams
pub mod Parted
pub mod Apart
pub mod LaidApart
pub mod Reflecting
pub mod ChosenApart
mod Examples
mod BestExamples
mod ParagraphExamples
mod PartExamples
