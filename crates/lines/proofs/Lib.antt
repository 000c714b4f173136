-- The laws of texts and of lines.
pub mod TextLaws
pub mod LineLaws
pub mod ResultLaws
pub mod WorkedCases
