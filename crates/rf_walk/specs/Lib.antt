pub mod Papers
pub mod Extents
pub mod Within
pub mod Kinds
pub mod Walked
pub mod LaidOut
