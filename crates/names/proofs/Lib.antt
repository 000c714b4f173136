-- The laws of sets of names.
pub mod SetLaws
pub mod PartLaws
