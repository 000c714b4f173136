-- The four steps of receiving (document 01, "Receiving"), each a definition of its own, on the datum that a receipt makes and what is held and known.
-- Assumes nothing: these are definitions.
use Rattle.std.specs.Prelude.{ℕ, ◌^◌, min, max, Bool, true, false, ◌&&◌, ◌||◌, not, cond, List, [], ◌∷◌, ◌++◌, eqb, leb, ltb, length}
use Rattle.std.specs.List.{list_any, filter}
use Rattle.predicates.specs.Predicates.{implies, is_true, normal}
use Rattle.state.specs.Model.{Datum, Store}
use Rattle.entries.specs.Entries.{explained, learn}
use Rattle.state.specs.Layout.{data_most, entries_most}

-- ---- step 1: "where the intervals are disjoint, the sum of both predicates, in normal form, is an entry for the failure knowledge"

unfoldable pub disjoint : Datum → Datum → Bool
disjoint d e = ltb d.right e.left || ltb e.right d.left

-- "Oldest held datum first"
unfoldable pub learnt : Datum → List Datum → List (List ℕ) → List (List ℕ)
learnt n [] es = es
learnt n (d ∷ ds) es = learnt n ds (cond (disjoint d n) (learn (normal (d.terms ++ n.terms)) es) es)

-- ---- step 2: "Held data whose predicate is implied by one entry go"

unfoldable pub unexplained : List (List ℕ) → List Datum → List Datum
unexplained es ds = filter (λ d. not (explained es d.terms)) ds

-- ---- step 3: "The oldest held datum with the same predicate is removed and the new interval becomes the intersection (rule 15)."

unfoldable pub same : List ℕ → List ℕ → Bool
same [] [] = true
same [] (u ∷ q) = false
same (t ∷ p) [] = false
same (t ∷ p) (u ∷ q) = eqb t u && same p q

-- the intersection, under n's predicate
unfoldable pub meet : Datum → Datum → Datum
meet d n = record { left = max d.left n.left; right = min d.right n.right; terms = n.terms }

unfoldable pub met : Datum → List Datum → Datum
met n [] = n
met n (d ∷ ds) = cond (same d.terms n.terms) (meet d n) (met n ds)

unfoldable pub without : List ℕ → List Datum → List Datum
without p [] = []
without p (d ∷ ds) = cond (same d.terms p) ds (d ∷ without p ds)

-- ---- step 4 (rule 14)

-- "implies the new predicate and lies within the new interval"
unfoldable pub betters : Datum → Datum → Bool
betters d n = implies d.terms n.terms && (leb n.left d.left && leb d.right n.right)

-- "If a held datum [betters] the new one [it] is not stored. Else held data that the new one betters in this way go, and it stands last."
unfoldable pub stored : Datum → List Datum → List Datum
stored n ds = cond (list_any (λ d. betters d n) ds) ds (filter (λ d. not (betters n d)) ds ++ (n ∷ []))

-- ---- the receipt

-- steps 2 to 4, with the entries that step 1 leaves: "the new datum too, and then the receipt ends"
unfoldable pub held_after : Datum → List Datum → List (List ℕ) → List Datum
held_after n ds es =
    cond (explained es n.terms) (unexplained es ds)
    (stored (met n (unexplained es ds)) (without n.terms (unexplained es ds)))

-- the four steps
unfoldable pub settled : Datum → Store → Store
settled n k = record { held = held_after n k.held (learnt n k.held k.entries); entries = learnt n k.held k.entries }

-- "If it is true, the receipt is taken and changes nothing."
unfoldable pub received : Datum → Store → Store
received n k = cond (is_true n.terms) k (settled n k)

-- ---- a violation (document 02, W-201): the sender's clock has jumped

-- "A violation makes the sender's name an entry, placed as in 01"
unfoldable pub blamed : ℕ → Store → Store
blamed sender k = record { held = k.held; entries = learn (2 ^ sender ∷ []) k.entries }

-- "step 2 clears held data"
unfoldable pub swept : Store → Store
swept k = record { held = unexplained k.entries k.held; entries = k.entries }

-- the receipt of a datum from the sender: the test "comes before step 1"; "A receipt with a true predicate does all this too, step 2 only after a
-- violation"
unfoldable pub judged : Bool → ℕ → Datum → Store → Store
judged violation sender n k =
    cond violation (cond (is_true n.terms) (swept (blamed sender k)) (settled n (blamed sender k))) (received n k)

-- "32 too many data or entries": "At most 16 data and 32 entries, counted at the end"
unfoldable pub too_many : Store → Bool
too_many k = ltb data_most (length k.held) || ltb entries_most (length k.entries)
