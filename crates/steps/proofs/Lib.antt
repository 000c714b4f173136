-- The laws that the proofs of `steps` and the crates above share: the steps on rows of data, what the steps keep, and a violation.
pub mod StepLaws
pub mod HeldLaws
pub mod ReceiveLaws
pub mod BlameLaws
pub mod WithdrawnLaws
