-- What the contracts of the program's edges cite.
pub mod Faults
pub mod Bytes
pub mod Held
pub mod Counts
pub mod Files
