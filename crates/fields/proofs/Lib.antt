-- The laws of fields and of decimal digits.
pub mod FieldLaws
pub mod DecimalLaws
