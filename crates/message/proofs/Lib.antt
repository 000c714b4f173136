-- The laws that the proofs of `message` share, lowest first: words, reading, and what is written read back.
pub mod Cases
pub mod WordLaws
pub mod ReadLaws
pub mod MessageLaws
