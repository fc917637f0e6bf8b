pub mod Spelled
pub mod Lists
pub mod Lengths
pub mod Flattenable
pub mod Laws
