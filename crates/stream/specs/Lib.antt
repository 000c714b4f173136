pub mod Listing
pub mod Kept
pub mod Cases
