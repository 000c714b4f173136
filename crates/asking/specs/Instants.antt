-- Instants, and which of them count over a state (document 01, "Asking"). Assumes nothing: these are definitions.
use Rattle.std.specs.Prelude.{ℕ, ◌≤◌, ◌<◌, not, List, [], ◌∷◌, T, ℤ, pos, negsuc}
use Rattle.std.specs.Int.Count.{ones}
use Rattle.names.specs.Sets.{no_set, has}
use Rattle.std.specs.List.{list_all}
use Rattle.predicates.specs.Predicates.{holds}
use Rattle.state.specs.Model.{Datum, Store, State}
use Rattle.asking.specs.declared.Answer.{Answer}
use Rattle.asking.specs.declared.Answer.TheVariants.{Contradicted, Open, Between}

-- an instant is a whole count of millionths, as ends are (document 02, W-205): negative ones too. It is in the interval from l to r, whose ends are
-- not negative
abbrev pub Within : ℕ → ℕ → ℤ → Type 0
Within l r (pos n) = (l ≤ n) × (n ≤ r)
Within l r (negsuc n) = ⊥

-- "each held interval whose predicate that set leaves false contains the instant"
abbrev pub InAll : ℕ → List Datum → ℤ → Type 0
InAll s [] x = Unit {0}
InAll s (d ∷ ds) x = (T (not (holds s d.terms)) → Within d.left d.right x) × InAll s ds x

-- the set "makes every entry true, and each held interval whose predicate that set leaves false contains the instant"
abbrev pub Fine : ℕ → Store → ℤ → Type 0
Fine s k x = T (list_all (holds s) k.entries) × InAll s k.held x

-- "some set within the limit, without the own name"
pub record Allowed (limit own s : ℕ) : Type 0 where
  pub names : s < no_set
  pub few : ones s ≤ limit
  pub others : T (not (has own s))

-- "an instant counts if some set within the limit, without the own name, makes every entry true, and each held interval whose predicate that set
-- leaves false contains the instant"
abbrev pub Counts : ℕ → State → ℤ → Type 0
Counts limit st x = (s : ℕ) × Allowed limit st.head.own s × Fine s st.store x

-- the answer that a set of instants gives: "contradicted, open, or between with both ends; gaps belong to it"
abbrev pub Gives : (ℤ → Type 0) → Answer → Type 0
Gives P Contradicted = (x : ℤ) → P x → ⊥
Gives P Open = (x : ℤ) → P x
Gives P (Between l r) = P (pos l) × P (pos r) × ((x : ℤ) → P x → Within l r x)
