-- The laws of the search: by sets, with one name left to add, over the flat arrays, over the left ends, and for the least set of all.
pub mod SearchLaws
pub mod LastLaws
pub mod PartedLaws
pub mod SearchSteps
pub mod EndSteps
pub mod StretchLaws
pub mod LeastLaws
