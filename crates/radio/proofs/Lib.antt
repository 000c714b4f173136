-- The laws that the proofs of `radio` share, lowest first: names, reading, and what is written read back.
pub mod NameLaws
pub mod GivenNames
pub mod ReadLaws
pub mod MessageLaws
pub mod WorkedMessages
pub mod HeardNames
