-- Definitions that serve the code alone: no statement of document 01 cites this file.
-- Rows of entries in flat arrays, as a receipt works on them: their marks, and the rows given up. Assumes nothing: these are definitions.
use Rattle.std.specs.Prelude.{ℕ, zero, suc, ◌≤◌, ◌<◌, ◌≡◌, Bool, false, ◌||◌, cond, List, ◌++◌, length, get_or, drop}
use Rattle.numbers.specs.Numbers.{tab}
use Rattle.predicates.specs.code.Marks.{mark_of}
use Rattle.state.specs.Layout.{entry_terms}
use Rattle.state.specs.code.Tables.{Table, row_of}

-- each of the first n rows of entries that has not been given up has its mark: the names that make it true alone
pub record Marked (n : ℕ) (t : Table) (marks : List ℕ) : Type 0 where
  pub reach : n ≤ length marks
  pub mark : (i : ℕ) → i < n → (get_or t.counts i 0 ≡ 0 → ⊥) → get_or marks i 0 ≡ mark_of (row_of entry_terms t i)

-- of the first n rows each has been given up or is as it was
abbrev pub Left : ℕ → List ℕ → List ℕ → Type 0
Left n old counts = (i : ℕ) → i < n → (get_or counts i 0 ≡ 0 → ⊥) → get_or counts i 0 ≡ get_or old i 0

-- some row below n passes the test
unfoldable pub any_below : ℕ → (ℕ → Bool) → Bool
any_below zero test = false
any_below (suc n) test = any_below n test || test n

-- the counts when the rows that pass the test have been given up
unfoldable pub given_up : ℕ → (ℕ → Bool) → List ℕ → List ℕ
given_up n test counts = tab n (λ i. cond (test i) 0 (get_or counts i 0)) ++ drop n counts
