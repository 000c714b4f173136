-- The laws of rows of entries that the crates above share.
pub mod TableLaws
pub mod StandingLaws
pub mod LoanLaws
