pub mod Ways
pub mod Steps
pub mod Raises
pub mod Prunes
pub mod Behind
pub mod Results
pub mod Seen
pub mod Made
pub mod Marks
pub mod Joins
pub mod ToCome
pub mod Growth
pub mod Pairs
pub mod Cuts
pub mod Ends
mod Examples
