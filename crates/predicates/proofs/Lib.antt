-- The laws of predicates, from lists up to the normal form in place and the sum.
pub mod ListLaws
pub mod BitLaws
pub mod IndexLaws
pub mod EachLaws
pub mod PredicateLaws
pub mod LoopLaws
pub mod MarkLaws
pub mod PlaceLaws
pub mod SumLaws
