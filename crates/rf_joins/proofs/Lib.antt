pub mod TreesJoin
pub mod MovedDocuments
pub mod SlotsJoin
pub mod ItemsJoin
pub mod ParagraphsJoin
pub mod LexRefusalsJoin
pub mod TreeRefusalsJoin
pub mod Standing
