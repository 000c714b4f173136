-- The laws of names that count as failed and of epochs heard.
pub mod WithdrawLaws
pub mod EpochLaws
