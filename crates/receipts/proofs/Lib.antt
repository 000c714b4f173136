-- The laws that the proofs of `receipts` share: a datum taken, epochs stored, and the exits of a receipt.
pub mod TakenLaws
pub mod HearingCalls
pub mod ReceiptCalls
pub mod RisenLaws
pub mod ReceivingLaws
