mod StoredNodes
pub mod Unfolding
mod Steps
pub mod Carrying
pub mod Behind
pub mod Places
pub mod SlotEnds
mod Items
mod Ends
mod Settled
pub mod Beginning
pub mod ItemTexts
mod Gapping
pub mod NextSlots
pub mod Standing
mod Lists
pub mod ToldNodes
mod Examples
mod FirstAhead
pub mod SameItems
