pub mod Dominance
pub mod Members
pub mod Kept
pub mod Pareto
pub mod Choices
pub mod Sums
pub mod Layouts
pub mod Reflected
mod Examples
mod ReflectingExamples
mod LawExamples
