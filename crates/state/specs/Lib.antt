pub mod Model
pub mod Layout
pub mod Form
pub mod Refusal
pub mod code
