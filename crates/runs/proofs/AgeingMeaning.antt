-- What ageing means to one set s of failed names: the instants that s allows afterwards are those that it allowed before, each advanced by an amount
-- from the least to the greatest.
-- The idea: forth is arithmetic. Back, from x, needs one instant before that suits all active data at once, and every single one of them leaves a
-- choice; an instant k that s allowed before fixes it: x goes back as near to k as the advances let it. Assumes nothing.
use Prim.Native.Nat.{ℕ, ◌+◌, ◌-◌, ◌≤◌, min, max}
use mathlib.Core.Path.{◌≡◌, ap}
use mathlib.Core.Logic.Iff
use mathlib.Core.Logic.{◌↔◌, ◌⊎◌, inl, inr}
use mathlib.Core.List.{List, map}
use native.Mathlib.Nat.{le_refl}
use native.Mathlib.Omega.{arith}
use lib.IntN.{ℤ, pos, negsuc, ◌+ℤ◌, ◌-ℤ◌, -ℤ-+ℤ_cancel}
use Rattle.predicates.specs.Lists.{In}
use Rattle.predicates.proofs.EachLaws.{Each, each_map}
use Rattle.state.specs.Model.{Datum}
use Rattle.engine.specs.Ageing.{widened}
use Rattle.asking.specs.Instants.{Within, InAll}
use Rattle.asking.proofs.InstantLaws.{Active, Allows}
use Rattle.runs.proofs.ReceiptMeaning.{inall_each, active-cases}

module _ (s lo hi : ℕ) where
  within_on : (l r a : ℕ) (y : ℤ) → lo ≤ a → a ≤ hi → Within l r y → Within (l + lo) (r + hi) (y +ℤ pos a)
  within_on l r a (pos k) p q h = omega arith
  within_on l r a (negsuc k) p q h = absurd h

  -- what the aged data claim of x, by the data as they were
  aged-each : (ds : List Datum) (x : ℤ)
      → InAll s (map (widened lo hi) ds) x ↔ Each (λ d. Active s d → Within (d.left + lo) (d.right + hi) x) ds
  unfolding widened
  aged-each ds x = Iff.trans (inall_each s x (map (widened lo hi) ds)) (each_map (Allows s x) (widened lo hi) ds)

  pub age_in : (ds : List Datum) (y : ℤ) (a : ℕ) → lo ≤ a → a ≤ hi → InAll s ds y → InAll s (map (widened lo hi) ds) (y +ℤ pos a)
  age_in ds y a p q h =
      (aged-each ds (y +ℤ pos a)).1 (λ d m b. within_on d.left d.right a y p q ((inall_each s y ds).0 h d m b))

  -- the instant before, and the advance
  abbrev Before : List Datum → ℤ → Type 0
  Before ds x = (y : ℤ) × (a : ℕ) × (lo ≤ a) × (a ≤ hi) × (y +ℤ pos a ≡ x) × InAll s ds y

  pub age_out : (ds : List Datum) → lo ≤ hi → (k : ℕ) → InAll s ds (pos k) → (x : ℤ) → InAll s (map (widened lo hi) ds) x → Before ds x
  age_out ds fits k at x h = go (active-cases s ds)
    where
      back : (x : ℤ) → Each (λ d. Active s d → Within (d.left + lo) (d.right + hi) x) ds → (d : Datum) → In d ds → Active s d → Before ds x
      back (negsuc m) w d i b = absurd (w d i b)
      back (pos m) w d i b =
          let v = w d i b in
          let j : ℕ = max (m - hi) (min k (m - lo)) in (
            pos j,
            m - j,
            omega (arith, v.0),
            omega (arith, v.0),
            ap pos (omega (arith, v.0)),
            (inall_each s (pos j) ds).1 (λ e i b.
                let v = w e i b in
                let u = (inall_each s (pos k) ds).0 at e i b in
                omega (arith, v.0, v.1, u.0, u.1)),
          )

      go : ((d : Datum) × In d ds × Active s d) ⊎ ((y : ℤ) → InAll s ds y) → Before ds x
      go (inl (d, i, b)) = back x ((aged-each ds x).0 h) d i b
      go (inr f) = (x -ℤ pos lo, lo, le_refl lo, fits, -ℤ-+ℤ_cancel x (pos lo), f (x -ℤ pos lo))
