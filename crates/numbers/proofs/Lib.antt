-- The laws of numbers and words in bytes.
pub mod NumberLaws
