pub mod SlotsHold
pub mod Each
pub mod KeptTrees
pub mod Layouts
pub mod DrawnTexts
pub mod Signatures
pub mod SameTrees
pub mod GapStrands
pub mod GapWeaving
pub mod Parts
pub mod SlotStrands
pub mod ShapeStrands
pub mod TreeStrands
pub mod FileWeaving
pub mod Following
pub mod FileParagraphs
pub mod Sizes
pub mod ListSizes
pub mod FewPieces
pub mod FormByForm
pub mod Firsts
pub mod RenamedDocuments
pub mod SameDocuments
pub mod OneLayout
pub mod OneAnswer
mod Picking
mod Examples
mod SignedExamples
mod WayExamples
mod LayoutExamples
