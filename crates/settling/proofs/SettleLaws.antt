-- The four steps together: the rows that they give up and leave, as facts on the list of data that the rows hold, and the store that is left.
-- No contract cites this file. Assumes nothing.
use Prim.Native.Nat.{ℕ}
use mathlib.Core.Path.{◌≡◌, sym, ap₂, ◌∙◌}
use mathlib.Core.Bool.{true, false, not}
use mathlib.Core.List.{List, [], ◌∷◌, ◌++◌, map}
use lib.Dec.{T}
use Rattle.std.specs.List.{list_any, filter}
use Rattle.predicates.specs.Predicates.{implies}
use Rattle.state.specs.Model.{Datum, Store}
use Rattle.state.specs.declared.holding.Held.{Held}
use Rattle.state.specs.code.Tables.{terms_of, data_in}
use Rattle.steps.specs.code.Rows.{given_up_if}
use Rattle.steps.proofs.HeldLaws.{gone-data}
use Rattle.entries.specs.Entries.{explained, learn}
use Rattle.steps.proofs.ReceiveLaws.{explained_mono, learn-has}
use Rattle.steps.proofs.BlameLaws.{learnt-none}
use Rattle.steps.specs.Steps.{learnt, unexplained, met, without, betters, stored, held_after, settled}

-- ---- steps 2 to 4 together

pub stored-kept : (n : Datum) (ds : List Datum) → list_any (λ x. betters x n) ds ≡ true → ds ≡ stored n ds
unfolding stored
stored-kept n ds e = rw e

pub stored-new : (n : Datum) (ds : List Datum) → list_any (λ x. betters x n) ds ≡ false → filter (λ x. not (betters n x)) ds ++ (n ∷ []) ≡ stored n ds
unfolding stored
stored-new n ds e = rw e

pub data_unexplained : (es : List (List ℕ)) (c : List Held) → data_in (map (λ r. given_up_if (explained es (terms_of r)) r) c) ≡ unexplained es (data_in c)
unfolding unexplained
data_unexplained es c = gone-data (λ d. explained es d.terms) c

pub held-explained : (n : Datum) (ds : List Datum) (es : List (List ℕ)) → explained es n.terms ≡ true → unexplained es ds ≡ held_after n ds es
unfolding held_after
held-explained n ds es e = rw e

pub held-placed : (n : Datum) (ds : List Datum) (es : List (List ℕ)) → explained es n.terms ≡ false
    → stored (met n (unexplained es ds)) (without n.terms (unexplained es ds)) ≡ held_after n ds es
unfolding held_after
held-placed n ds es e = rw e

-- the entries of step 1 and the data of steps 2 to 4 are the store of the definition
pub settled_by : (n : Datum) (k : Store) (ds : List Datum) (es : List (List ℕ)) → es ≡ learnt n k.held k.entries
    → ds ≡ held_after n k.held es → ◌≡◌ {A = Store} (record { held = ds; entries = es }) (settled n k)
unfolding settled
settled_by n k ds es p q = ap₂ (λ (x : List Datum) (y : List (List ℕ)). record { held = x; entries = y }) (q ∙ rw p) p

-- ---- step 1 after a violation

-- the entry of a blamed name that implies the new predicate, and nothing else is learnt
pub with_learnt : (n : Datum) (ds : List Datum) (t : ℕ) (es : List (List ℕ)) → T (implies (t ∷ []) n.terms)
    → learn (t ∷ []) es ≡ learnt n ds (learn (t ∷ []) es)
with_learnt n ds t es h =
    sym (learnt-none n ds (learn (t ∷ []) es) (explained_mono (learn (t ∷ []) es) (t ∷ []) n.terms h (learn-has (t ∷ []) es)))
