pub mod Fields
pub mod Decimal
pub mod code
