pub mod Ways
pub mod Kept
pub mod Frontiers
pub mod Plans
pub mod Pending
pub mod Turns
pub mod Raised
pub mod Laws
