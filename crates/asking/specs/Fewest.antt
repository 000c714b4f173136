-- The fewest failures (document 01, "Fewest failures"): "among sets of at most 4 names for which an instant so counts, the smallest, and of those
-- the least mask; or 'over 4'". Once computed, and once as what it means. Assumes nothing: these are definitions.
use Rattle.std.specs.Prelude.{ℕ, ◌≤◌, ◌<◌, ◌≡◌, ◌⊎◌, Bool, true, false, ◌&&◌, ◌||◌, cond, Option, None, Some, List, [], ◌∷◌, leb, ltb, eqb, ℤ}
use Rattle.std.specs.Int.Count.{ones}
use Rattle.std.specs.List.{filter}
use Rattle.state.specs.Model.{Store, State}
use Rattle.asking.specs.declared.Answer.{Answer}
use Rattle.asking.specs.declared.Answer.TheVariants.{Contradicted, Open, Between}
use Rattle.asking.specs.Instants.{Fine, Allowed}
use Rattle.asking.specs.Asking.{leaves, sets_within}

-- the fewest failures: over 4, or how many names and which
pub data Fewest : Type 0 where
  Over : Fewest
  Few : ℕ → ℕ → Fewest

-- those that a set of names is, if there is one
abbrev pub fewest_of : Option ℕ → Fewest
fewest_of None = Over
fewest_of (Some m) = Few (ones m) m

-- ---- computed

abbrev pub not_contradicted : Answer → Bool
not_contradicted Contradicted = false
not_contradicted Open = true
not_contradicted (Between l r) = true

-- an instant counts for the set
unfoldable pub works : Store → ℕ → Bool
works k s = not_contradicted (leaves s k)

-- "the smallest, and of those the least mask"
unfoldable pub smaller : ℕ → ℕ → Bool
smaller m s = ltb (ones m) (ones s) || (eqb (ones m) (ones s) && leb m s)

unfoldable pub best : ℕ → List ℕ → ℕ
best m [] = m
best m (s ∷ ss) = best (cond (smaller m s) m s) ss

unfoldable pub choose : List ℕ → Fewest
choose [] = Over
choose (s ∷ ss) = Few (ones (best s ss)) (best s ss)

-- "among sets of at most 4 names"
unfoldable pub fewest : State → Fewest
fewest st = choose (filter (works st.store) (sets_within st.head.own 4))

-- ---- what it means

-- s has at most 4 names, without the own one, and an instant counts for it
abbrev pub Works : State → ℕ → Type 0
Works st s = Allowed 4 st.head.own s × ((x : ℤ) × Fine s st.store x)

-- the smaller set, and of two of one size the one with the lesser mask
abbrev pub Smaller : ℕ → ℕ → Type 0
Smaller m s = (ones m < ones s) ⊎ ((ones m ≡ ones s) × (m ≤ s))

-- the fewest of the sets W
abbrev pub FewestOf : (ℕ → Type 0) → Fewest → Type 0
FewestOf W Over = (s : ℕ) → W s → ⊥
FewestOf W (Few n m) = W m × (ones m ≡ n) × ((s : ℕ) → W s → Smaller m s)

-- ---- for C: "fewest 16 (count, 5 for over 4; mask, then 0)"

unfoldable pub fewest_numbers : Fewest → List ℕ
fewest_numbers Over = 5 ∷ 0 ∷ []
fewest_numbers (Few n m) = n ∷ m ∷ []
