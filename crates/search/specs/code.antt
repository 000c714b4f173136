-- Definitions that serve the code alone: no statement of document 01 cites this file.
pub mod Search
pub mod LeftEnds
pub mod Tables
