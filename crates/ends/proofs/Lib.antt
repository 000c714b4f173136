-- The laws of ends in two numbers.
pub mod EndLaws
