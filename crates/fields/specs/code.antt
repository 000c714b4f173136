-- The definitions that serve the code alone.
pub mod Scan
pub mod Lines
