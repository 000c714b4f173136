pub mod Clocks
pub mod Places
pub mod Worked
pub mod code
