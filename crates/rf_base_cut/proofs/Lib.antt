pub mod Cutting
pub mod Pruned
pub mod Mapped
pub mod Behind
pub mod Steps
pub mod FlatTexts
pub mod Indifferent
pub mod Lines
pub mod OneWay
pub mod DocumentSteps
pub mod DocumentCuts
pub mod Halves
pub mod Unindented
pub mod DocumentLines
pub mod CoreLines
pub mod LaidLines
pub mod Roots
mod Examples
mod NeededExamples
mod DocumentExamples
mod LineExamples
mod FreeExamples
