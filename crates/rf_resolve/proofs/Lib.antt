pub mod Alike
pub mod Counting
pub mod Clamped
pub mod Turns
pub mod Weights
pub mod Leaves
pub mod Parts
pub mod Branches
pub mod Needs
pub mod Joins
pub mod Joined
pub mod Fills
pub mod Going
pub mod Firsts
pub mod Resolutions
pub mod Alone
mod Examples
