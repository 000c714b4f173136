-- The laws of the fewest failures: by rising limits, with what a search over the claims finds.
pub mod FailureSteps
