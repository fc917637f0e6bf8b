pub mod Entries
pub mod Faults
pub mod Answers
pub mod Values
pub mod Rules
pub mod StyleOf
pub mod Laws
