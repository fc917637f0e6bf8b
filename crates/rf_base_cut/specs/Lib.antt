pub mod Cut
pub mod OneLine
pub mod Indifferent
pub mod Free
pub mod Laws
pub mod Documents
pub mod DocumentLines
pub mod DocumentLaws
