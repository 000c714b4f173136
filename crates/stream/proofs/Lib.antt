-- The laws of the listing over a stream, and over a whole input.
pub mod StreamLaws
pub mod ListingLaws
pub mod WorkedCases
