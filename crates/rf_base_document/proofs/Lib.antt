pub mod Document
pub mod Graph
pub mod Sequence
pub mod Render
pub mod Simple
pub mod Picked
pub mod Running
pub mod Marks
mod Examples
mod ChoiceExamples
mod LimitExamples
