pub mod Places
pub mod Spans
pub mod Marks
pub mod PlainMarks
pub mod Cuts
pub mod RunEnds
pub mod Stripped
pub mod HereLines
pub mod RunParts
pub mod BangLines
pub mod LanguageParts
pub mod Openings
pub mod AtOnce
pub mod GapParts
pub mod Leads
pub mod NextItems
mod Examples
