-- The definitions that serve the code alone.
pub mod Calls
pub mod Turns
