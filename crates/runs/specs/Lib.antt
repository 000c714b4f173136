pub mod Demand1
pub mod Demand2
pub mod Book
pub mod Runs
pub mod ByNames
pub mod Orders
pub mod Cases
pub mod Example
