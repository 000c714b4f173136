pub mod Epochs
pub mod code
