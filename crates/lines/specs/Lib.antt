pub mod Text
pub mod Lines
pub mod Cases
pub mod code
