pub mod Forests
pub mod Dotting
pub mod MoveMeans
pub mod TreeReading
pub mod OneTree
pub mod Cuts
pub mod Sizes
pub mod Separating
pub mod Alike
mod Examples
mod SeparatorExamples
