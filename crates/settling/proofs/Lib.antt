-- The laws that the proofs of `settling` and the crate above share: rows of data given up and left, the steps together, and what a receipt leaves.
pub mod LeftLaws
pub mod SettleLaws
pub mod OutcomeLaws
