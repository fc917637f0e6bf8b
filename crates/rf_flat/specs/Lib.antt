pub mod Cores
pub mod Places
pub mod Reached
pub mod Kept
pub mod Simplified
pub mod Taken
