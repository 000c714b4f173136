-- Definitions that serve the code alone: no statement of documents 01 and 02 cites this file.
-- A datum taken, with the blamed name as a term. Assumes nothing: these are definitions.
use Rattle.std.specs.Prelude.{ℕ, ◌&&◌, cond, List, eqb, Option}
use Rattle.std.specs.Option.{is_none}
use Rattle.numbers.specs.Numbers.{put}
use Rattle.predicates.specs.Predicates.{is_true}
use Rattle.state.specs.Model.{Datum, Store, State}
use Rattle.state.specs.Layout.{state_bytes, head_of, store_of, state_of}
use Rattle.steps.specs.Steps.{settled, judged, too_many}
use Rattle.steps.specs.Withdrawn.{withdrawn}
use Rattle.clocks.specs.declared.Readings.{Readings}
use Rattle.receipts.specs.code.Blame.{blamed_by}
use Rattle.receipts.specs.code.Given.{violated_in}

-- the four steps with the datum, the entry of this term placed first; where nobody is blamed and the datum is true, all stays
unfoldable pub taken_by : Option ℕ → Datum → Store → Store
taken_by blame n k = cond (is_true n.terms && is_none blame) k (settled n (blamed_by blame k))

-- the lent state with another store
abbrev pub with_store : List ℕ → Store → State
with_store s k = record { head = head_of s; store = k }

-- the number of a receipt that leaves this store: "32 too many data or entries"
abbrev pub store_number : Store → ℕ
store_number k = cond (too_many k) 32 0

-- what a datum of this sender leaves, where its readings are judged by the lent state and names are withdrawn first
abbrev pub judged_in : List ℕ → ℕ → Option Readings → Datum → ℕ → Store
judged_in s sender readings n risen = judged (violated_in s sender readings) sender n (withdrawn risen (store_of s))

-- a state with names withdrawn
unfoldable pub withdrawn_state : ℕ → State → State
withdrawn_state r st = record { head = st.head; store = withdrawn r st.store }

-- the lent bytes after a receipt before which the names of r were withdrawn: its bytes stored over that state; the bytes as they were where it is
-- refused
unfoldable pub after_risen : ℕ → ℕ → List ℕ → List ℕ → List ℕ
after_risen number r made s = cond (eqb number 0) (put 0 made (put 0 (state_bytes (withdrawn_state r (state_of s))) s)) s
