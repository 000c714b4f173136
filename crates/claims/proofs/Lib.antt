-- The laws of the claims of a state in flat arrays: as they are read, their parts, their order, the
-- keys of their ends, and what the search asks of them.
pub mod TableLaws
pub mod PartingLaws
pub mod OrderLaws
pub mod DegreeLaws
pub mod KeyLaws
pub mod ReadyLaws
