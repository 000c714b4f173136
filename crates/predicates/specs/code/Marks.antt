-- Definitions that serve the code alone: no statement of document 01 cites this file.
-- A predicate's mark: the names that decide alone. Assumes nothing: these are definitions.
use Rattle.std.specs.Prelude.{ℕ, ◌-◌, ◌^◌, ◌≡◌, false, cond, List, [], ◌∷◌, eqb}
use Rattle.std.specs.Int.Count.{ones}
use Rattle.names.specs.Sets.{set_union}
use Rattle.predicates.specs.Predicates.{holds, implies}

-- the names of the terms of one name
unfoldable pub singles : List ℕ → ℕ
singles [] = 0
singles (t ∷ p) = cond (eqb (ones t) 1) (set_union t (singles p)) (singles p)

-- the mark: the names that each make the predicate true alone; all that a mask can hold where it is true whatever has failed
unfoldable pub mark_of : List ℕ → ℕ
mark_of p = cond (holds 0 p) (2 ^ 32 - 1) (singles p)

-- no predicate of the mark a implies one of the mark b
abbrev pub Apart : ℕ → ℕ → Type 0
Apart a b = (p q : List ℕ) → a ≡ mark_of p → b ≡ mark_of q → implies p q ≡ false
