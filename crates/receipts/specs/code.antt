-- Definitions that serve the code alone: no statement of documents 01 and 02 cites them.
pub mod Blame
pub mod Given
pub mod Taken
