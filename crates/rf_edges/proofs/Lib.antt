-- Lemmas of the program's edges.
pub mod Taken
pub mod Given
mod Examples
