-- Definitions that serve the code alone: no statement of document 01 cites this file.
pub mod Plain
pub mod Claims
pub mod Mirror
pub mod One
