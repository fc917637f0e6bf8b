pub mod Cost
pub mod Pareto
pub mod Reflecting
pub mod Laws
