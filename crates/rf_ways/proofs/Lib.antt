pub mod Below
pub mod LineCuts
pub mod NodeParts
pub mod NodeTrees
pub mod RowSteps
pub mod Words
pub mod Taking
mod Examples
mod NodeExamples
