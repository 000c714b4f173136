-- Definitions that serve the code alone: no statement of document 01 cites this file.
-- One failed name at most: alone it makes a predicate true where it is one of its terms. Assumes nothing: these are definitions.
use Rattle.std.specs.Prelude.{ℕ, ◌≤◌, ◌<◌, ◌≡◌, ◌⊎◌, Bool, not, Option, List, [], map, T, ℤ, pos, length, get_or}
use Rattle.std.specs.Int.Count.{ones}
use Rattle.std.specs.List.{fold}
use Rattle.std.specs.Option.{unwrap_or}
use Rattle.names.specs.Sets.{no_set, subset, set_union}
use Rattle.names.specs.code.Parts.{shared}
use Rattle.predicates.specs.code.Marks.{singles}
use Rattle.predicates.specs.Lists.{In}
use Rattle.predicates.specs.Predicates.{holds}
use Rattle.state.specs.Model.{Datum, State}
use Rattle.search.specs.code.LeftEnds.{no_end}
use Rattle.claims.specs.code.Tables.{entry_claim}
use Rattle.asking.specs.Instants.{Within, InAll}
use Rattle.asking.specs.Asking.{active}
use Rattle.asking.specs.Fewest.{Works}

-- ---- masks

-- of each datum the names that make its predicate true alone
unfoldable pub masks_of : List Datum → List ℕ
masks_of ds = map (λ (d : Datum). singles d.terms) ds

-- those of the names that all masks have
abbrev pub common_names : ℕ → List ℕ → ℕ
common_names names ms = fold (λ left m. shared left m) names ms

-- the names and those that some mask has
abbrev pub all_names : ℕ → List ℕ → ℕ
all_names names ms = fold (λ found m. set_union found m) names ms

-- ---- data in arrays

-- these are the ends of the data and their masks; no predicate has the empty term, and every right end is one
pub record InArrays (ds : List Datum) (lefts rights masks : List ℕ) : Type 0 where
  pub masks_are : masks ≡ masks_of ds
  pub left_is : (i : ℕ) → i < length masks → get_or lefts i 0 ≡ (get_or ds i (entry_claim [])).left
  pub right_is : (i : ℕ) → i < length masks → get_or rights i 0 ≡ (get_or ds i (entry_claim [])).right
  pub bare : (d : Datum) → In d ds → T (not (holds 0 d.terms))
  pub below : (d : Datum) → In d ds → d.right < no_end

-- ---- what a name leaves

-- the set c is one of the names alone
abbrev pub OneOf : ℕ → ℕ → Type 0
OneOf names c = (ones c ≡ 1) × T (subset c names)

-- each of the names leaves some predicate false, so that what it leaves has ends
abbrev pub Lacking : List Datum → ℕ → Type 0
Lacking ds names = (c : ℕ) → OneOf names c → 0 < length (active c ds)

-- the set u is one of the names alone, or the empty set where that may be
abbrev pub AtMostOne : Bool → ℕ → ℕ → Type 0
AtMostOne plain names u = (T plain × (u ≡ 0)) ⊎ OneOf names u

-- from left to right is what the sets U leave together, "gaps belong to it"; where that is nothing, from no end to 0
pub record Hull (ds : List Datum) (U : ℕ → Type 0) (left right : ℕ) : Type 0 where
  pub within : (u : ℕ) → U u → (x : ℤ) → InAll u ds x → Within left right x
  pub first : left ≤ right → (u : ℕ) × U u × InAll u ds (pos left)
  pub last : left ≤ right → (u : ℕ) × U u × InAll u ds (pos right)
  pub none : right < left → (left ≡ no_end) × (right ≡ 0)

-- the name as a set, or the mask of no set
abbrev pub or_no_set : Option ℕ → ℕ
or_no_set name = unwrap_or name no_set

-- r is the least of the names that leaves an instant, or the mask of no set
pub record LeastLeaving (ds : List Datum) (names r : ℕ) : Type 0 where
  pub one : r < no_set → OneOf names r × ((x : ℤ) × InAll r ds x)
  pub least : (c : ℕ) → OneOf names c → (x : ℤ) → InAll c ds x → r ≤ c

-- r is the least name that works alone, or the mask of no set
pub record FewestOne (st : State) (r : ℕ) : Type 0 where
  pub one : r < no_set → Works st r × (ones r ≡ 1)
  pub least : (s : ℕ) → Works st s → ones s ≡ 1 → r ≤ s
