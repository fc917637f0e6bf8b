pub mod Putting
pub mod RowsOf
pub mod FreeGaps
pub mod ListLayouts
pub mod ShapeRows
pub mod FirstItems
pub mod Walking
pub mod ListPieces
mod Growing
mod Sizes
mod Slotting
mod Runs
mod Alone
mod Examples
pub mod LeadLines
mod CommentLines
