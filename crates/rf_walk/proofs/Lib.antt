pub mod Told
pub mod Joins
pub mod CoreWalks
pub mod Frames
pub mod Steps
mod Agreement
pub mod Ends
mod Covered
pub mod OneWord
mod Examples
