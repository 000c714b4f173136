pub mod Names
pub mod Read
pub mod Write
pub mod Worked
pub mod code
