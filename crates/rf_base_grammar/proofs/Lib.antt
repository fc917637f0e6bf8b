pub mod Words
pub mod Spans
pub mod RunCuts
pub mod StringCuts
pub mod BlockCuts
pub mod HereCuts
pub mod Beginnings
pub mod RunItems
pub mod HeadedItems
pub mod PlainItems
pub mod LanguageItems
pub mod ReaderFinds
pub mod Answers
pub mod LanguageAnswers
pub mod RunAnswers
pub mod ReaderMeans
pub mod ReaderIsExact
pub mod OneReading
pub mod Reached
pub mod Sources
pub mod Texts
pub mod Neighbours
pub mod Weaving
pub mod TrailingSpaces
mod ReaderExamples
mod WovenExamples
mod ItemExamples
mod WordExamples
pub mod TokenExamples
