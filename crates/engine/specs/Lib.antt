pub mod Calls
pub mod Ageing
pub mod Receiving
pub mod Hearing
pub mod Refusals
pub mod code
