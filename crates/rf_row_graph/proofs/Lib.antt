pub mod Alone
mod Standing
mod RowNodes
mod Cells
mod Examples
