pub mod Messages
pub mod Calls
pub mod Receive
pub mod Ask
pub mod code
