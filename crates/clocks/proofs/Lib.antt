-- The laws of what is saved and of a sender's place, and the worked cases.
pub mod ClockLaws
pub mod PlaceLaws
pub mod WorkedClocks
