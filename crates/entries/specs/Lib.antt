pub mod Entries
pub mod code
