-- Definitions that serve the code alone: no statement of document 01 cites them.
pub mod Marks
pub mod Rows
