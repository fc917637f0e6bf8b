pub mod Empty
pub mod Unfolding
pub mod Stacks
pub mod Slices
pub mod Strips
pub mod Opened
pub mod UnmadeLines
pub mod Stands
pub mod Runs
pub mod OneLines
pub mod Mixed
pub mod RowLines
pub mod Learning
pub mod Closed
pub mod Limits
pub mod Choiceless
pub mod Splits
pub mod Tellings
mod Examples
mod StackExamples
mod UnmadeExamples
pub mod Frames
pub mod LineWalks
pub mod Turns
pub mod Growth
