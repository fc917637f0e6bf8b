pub mod Spelling
pub mod SpelledRows
pub mod SpelledSteps
mod SpelledLayouts
pub mod SpelledShapes
pub mod Chosen
mod LongRows
mod LongShapes
pub mod LongTrees
pub mod LimitTrees
pub mod OneLines
pub mod KeptShapes
pub mod FlatRows
pub mod FlatShapes
mod Examples
