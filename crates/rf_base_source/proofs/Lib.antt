pub mod OneAnswer
mod Examples
