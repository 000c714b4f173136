-- Definitions that serve the code alone: no statement of document 01 cites this file.
-- What has to be explained (document 01, "Asking"): an instant counts for the sets that make every entry true and every held datum's predicate whose
-- interval lacks the instant. Assumes nothing: these are definitions.
use Rattle.std.specs.Prelude.{ℕ, Bool, ◌&&◌, not, List, ◌++◌, map, T, leb, length}
use Rattle.std.specs.List.{list_all, filter}
use Rattle.predicates.specs.Lists.{all_below}
use Rattle.predicates.specs.Predicates.{holds}
use Rattle.state.specs.Model.{Datum, Store, State}
use Rattle.claims.specs.code.Degrees.{degree_within}
use Rattle.asking.specs.Instants.{Allowed}

-- the instant x is in the datum's interval
unfoldable pub inside : ℕ → Datum → Bool
inside x d = leb d.left x && leb x d.right

abbrev pub terms_of : List Datum → List (List ℕ)
terms_of ds = map (λ (d : Datum). d.terms) ds

-- the predicates to be made true for the instant x
unfoldable pub needed_at : ℕ → Store → List (List ℕ)
needed_at x k = k.entries ++ terms_of (filter (λ d. not (inside x d)) k.held)

-- the predicates to be made true for every instant
unfoldable pub everything : Store → List (List ℕ)
everything k = k.entries ++ terms_of k.held

-- some set within the limit, without the own name, makes the predicates true
abbrev pub Explained : ℕ → State → List (List ℕ) → Type 0
Explained limit st ps = (u : ℕ) × Allowed limit st.head.own u × T (list_all (holds u) ps)

-- ---- without a search

-- what the entries tell by themselves: no set within the limit makes all of them true, since the degree of one is above the limit
unfoldable pub hopeless : ℕ → State → Bool
hopeless limit st = not (all_below (length st.store.entries) (degree_within st.store limit))
