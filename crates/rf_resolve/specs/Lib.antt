pub mod Keys
pub mod Gaps
pub mod Walk
pub mod Faults
pub mod Resolved
pub mod Holding
pub mod Answers
pub mod Joining
