pub mod Page
pub mod Memo
