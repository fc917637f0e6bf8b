pub mod Command
pub mod WordsOf
pub mod Answers
pub mod Laws
