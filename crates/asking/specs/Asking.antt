-- The answer over a state (document 01, "Asking"), set by set: the instants that each set leaves, and what all sets within the limit leave
-- together. Assumes nothing: these are definitions.
use Rattle.std.specs.Prelude.{ℕ, zero, suc, ◌^◌, min, max, not, cond, List, [], ◌∷◌, ◌++◌, map, leb, eqb}
use Rattle.names.specs.Sets.{set_union}
use Rattle.std.specs.List.{list_all, filter}
use Rattle.predicates.specs.Predicates.{holds}
use Rattle.ends.specs.Ends.{down, up}
use Rattle.state.specs.Model.{Datum, Store, State}
use Rattle.asking.specs.declared.Answer.{Answer}
use Rattle.asking.specs.declared.Answer.TheVariants.{Contradicted, Open, Between}

-- ---- one set

-- the instants from l to r
abbrev pub interval : ℕ → ℕ → Answer
interval l r = cond (leb l r) (Between l r) Contradicted

-- those of the instants that the datum's interval contains
unfoldable pub cut : Datum → Answer → Answer
cut d Contradicted = Contradicted
cut d Open = interval d.left d.right
cut d (Between l r) = interval (max l d.left) (min r d.right)

-- the instants that all the intervals contain
unfoldable pub common : List Datum → Answer
common [] = Open
common (d ∷ ds) = cut d (common ds)

-- the data whose predicate the set leaves false
unfoldable pub active : ℕ → List Datum → List Datum
active s ds = filter (λ d. not (holds s d.terms)) ds

-- the instants that count for the set s: it "makes every entry true, and each held interval whose predicate that set leaves false contains the
-- instant"
unfoldable pub leaves : ℕ → Store → Answer
leaves s k = cond (list_all (holds s) k.entries) (common (active s k.held)) Contradicted

-- ---- all sets within the limit

-- the sets of at most `limit` of the first n names, without the own one
unfoldable pub sets_of : ℕ → ℕ → ℕ → List ℕ
sets_of own zero limit = 0 ∷ []
sets_of own (suc n) zero = 0 ∷ []
sets_of own (suc n) (suc limit) = sets_of own n (suc limit) ++ cond (eqb n own) [] (map (λ s. set_union (2 ^ n) s) (sets_of own n limit))

-- "A name is 0 to 28."
unfoldable pub sets_within : ℕ → ℕ → List ℕ
sets_within own limit = sets_of own 29 limit

-- the instants of either: "gaps belong to it"
unfoldable pub either : Answer → Answer → Answer
either Contradicted b = b
either Open b = Open
either (Between l r) Contradicted = Between l r
either (Between l r) Open = Open
either (Between l r) (Between m s) = Between (min l m) (max r s)

unfoldable pub left_by : List ℕ → Store → Answer
left_by [] k = Contradicted
left_by (s ∷ ss) k = either (leaves s k) (left_by ss k)

-- with the ends as they are held, in millionths
unfoldable pub exact : ℕ → State → Answer
exact limit st = left_by (sets_within st.head.own limit) st.store

-- "Answers and messages round the left end down and the right end up" (document 02, W-205)
abbrev pub rounded : Answer → Answer
rounded Contradicted = Contradicted
rounded Open = Open
rounded (Between l r) = Between (down l) (up r)

-- "the answer is over the state"
unfoldable pub answer : ℕ → State → Answer
answer limit st = rounded (exact limit st)

-- ---- for C: "0 contradicted, 1 open, 2 between; left; right, both 0 unless between"

unfoldable pub answer_numbers : Answer → List ℕ
answer_numbers Contradicted = 0 ∷ 0 ∷ 0 ∷ []
answer_numbers Open = 1 ∷ 0 ∷ 0 ∷ []
answer_numbers (Between l r) = 2 ∷ l ∷ r ∷ []
