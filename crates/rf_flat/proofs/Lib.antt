pub mod CoreNodes
mod Making
mod Growing
mod Marks
mod Ranks
mod Fronts
mod Answering
mod Taking
mod Examples
