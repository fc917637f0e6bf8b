pub mod Tallies
pub mod Within
pub mod Measured
