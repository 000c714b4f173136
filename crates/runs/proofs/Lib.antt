-- Demand 1, ageing in pieces, demands 2 and 3 with what they rest on, lowest first: what a receipt, a violation and an ageing mean for one set, what a run
-- keeps, the answers; then receipts in any order; then runs by the states that their bytes hold, the table of cases and the examples.
pub mod Demand1
pub mod SameBytes
pub mod AgedOnce
pub mod PartsStay
pub mod ReceiptMeaning
pub mod BlameMeaning
pub mod WithdrawnMeaning
pub mod AgeingMeaning
pub mod Agreement
pub mod Runs
pub mod Answers
pub mod Demand2
pub mod Demand3
pub mod Further
pub mod Swaps
pub mod Orders
pub mod ByNames
pub mod DecodedRuns
pub mod WorkedCases
pub mod Example
pub mod WorkedOrders
