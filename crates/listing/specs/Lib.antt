pub mod System
pub mod Run
pub mod code
