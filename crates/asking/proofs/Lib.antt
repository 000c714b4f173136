-- The laws of asking: instants, what they need, the answer, the answer from the ends of the held intervals, the fewest failures; keys for
-- ends; then the claims in flat arrays, their order, and what a search over them means; then one name at most, without a search.
pub mod InstantLaws
pub mod ClaimLaws
pub mod AnswerLaws
pub mod PlainLaws
pub mod QuickLaws
pub mod EndLaws
pub mod FewestLaws
pub mod MappedLaws
pub mod ArrayLaws
pub mod AskSteps
pub mod OneLaws
pub mod OneSteps
