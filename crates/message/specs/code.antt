-- Definitions that serve the code alone: no statement of document 01 cites a file of this folder.
pub mod Told
