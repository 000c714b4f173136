-- Equal lists of terms are one list. Ends compared by their whole microseconds first: what that tells of two intervals.
-- No contract cites this file. Assumes nothing.
use Prim.Native.Nat.{ℕ}
use mathlib.Core.Path.{◌≡◌, refl, ap₂}
use mathlib.Core.Bool.{Bool, true, false, ◌&&◌, ◌||◌, not, and-false}
use mathlib.Core.Logic.{◌⊎◌, inl, inr}
use mathlib.Core.List.{List, [], ◌∷◌}
use native.Mathlib.Omega.{arith}
use borrow.Author.Tests.{le-ltb, lt-leb, eqb-true}
use lib.Dec.{T, leb, ltb, ltb→lt, eqb}
use Rattle.ends.specs.declared.Ends.{Ends}
use Rattle.ends.specs.Ends.{count_of, BothSplit}
use Rattle.ends.proofs.EndLaws.{not_precedes}
use Rattle.predicates.proofs.ListLaws.{both_l, both_r, or_cases, true_T}
use Rattle.steps.specs.Steps.{same}

-- terms that step 3 takes for the same are the same
pub same_eq : (p q : List ℕ) → same p q ≡ true → p ≡ q
unfolding same
same_eq [] [] e = refl
same_eq [] (u ∷ q) e = let z : ◌≡◌ {A = ℕ} 0 1 = cc in absurd (omega arith)
same_eq (t ∷ p) [] e = let z : ◌≡◌ {A = ℕ} 0 1 = cc in absurd (omega arith)
same_eq (t ∷ p) (u ∷ q) e = go (eqb t u) refl e (λ f. same_eq p q f)
  where
    go : (b : Bool) → eqb t u ≡ b → b && same p q ≡ true → (same p q ≡ true → p ≡ q) → t ∷ p ≡ u ∷ q
    go true f e rest = ap₂ (λ (x : ℕ) (l : List ℕ). x ∷ l) (eqb-true t u f) (rest e)
    go false f e rest = let z : ◌≡◌ {A = ℕ} 0 1 = cc in absurd (omega arith)

-- an interval lies within another: neither of its ends is beyond the other's
pub within-told : (x y z w : ℕ) (t u v : Bool) → t ≡ ltb x y → u ≡ ltb z w → not t && not u ≡ v → leb y x && leb w z ≡ v
within-told x y z w t u v p q e = rw (← (not_precedes y x), ← (not_precedes w z), ← p, ← q) e

-- the whole microseconds alone tell that intervals meet, or that one lies beyond the other's end
module _ (a b : Ends) (x : BothSplit a) (y : BothSplit b) where
  pub meets_soon : (ltb b.left.whole a.right.whole && ltb a.left.whole b.right.whole) ≡ true
      → false ≡ (ltb (count_of a.right) (count_of b.left) || ltb (count_of b.right) (count_of a.left))
  meets_soon e =
      let t = true_T (ltb b.left.whole a.right.whole && ltb a.left.whole b.right.whole) e in
      let g = ltb→lt b.left.whole a.right.whole (both_l (ltb b.left.whole a.right.whole) _ t) in
      let h = ltb→lt a.left.whole b.right.whole (both_r (ltb b.left.whole a.right.whole) _ t) in
      rw (le-ltb (count_of a.right) (count_of b.left) (omega (arith, x, y)), le-ltb (count_of b.right) (count_of a.left) (omega (arith, x, y)))

  pub beyond_soon : (ltb a.left.whole b.left.whole || ltb b.right.whole a.right.whole) ≡ true
      → leb (count_of b.left) (count_of a.left) && leb (count_of a.right) (count_of b.right) ≡ false
  beyond_soon e = go (or_cases (ltb a.left.whole b.left.whole) (ltb b.right.whole a.right.whole) (true_T (ltb a.left.whole b.left.whole || ltb b.right.whole a.right.whole) e))
    where
      go : T (ltb a.left.whole b.left.whole) ⊎ T (ltb b.right.whole a.right.whole)
          → leb (count_of b.left) (count_of a.left) && leb (count_of a.right) (count_of b.right) ≡ false
      go (inl t) = let g = ltb→lt a.left.whole b.left.whole t in rw (lt-leb (count_of b.left) (count_of a.left) (omega (arith, x, y)))
      go (inr t) =
          let g = ltb→lt b.right.whole a.right.whole t in
          rw (lt-leb (count_of a.right) (count_of b.right) (omega (arith, x, y)), and-false)
