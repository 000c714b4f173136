-- The laws that the proofs of `withdrawing` share: data and entries, one by one.
pub mod WithdrawnLaws
