pub mod Steps
pub mod Withdrawn
pub mod code
