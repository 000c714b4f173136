-- The definitions that serve the code alone.
pub mod Sizes
pub mod Commands
pub mod Outcomes
