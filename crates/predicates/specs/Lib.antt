pub mod Lists
pub mod Predicates
pub mod code
