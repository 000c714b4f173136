-- What a violation means to one set s of failed names: the instants that s allows afterwards are those that it allowed before, if it holds the
-- sender's name, and none otherwise; and if s allowed some instant wherever it makes every entry true, it still does.
-- The idea: the entry claims that the name is in s, `learn` adds no claim but this one, and step 2 takes away only data that a true entry explains.
-- Assumes nothing.
use Prim.Native.Nat.{ℕ, ◌^◌, ◌≤◌}
use mathlib.Core.Path.{◌≡◌}
use mathlib.Core.Logic.Iff
use mathlib.Core.Logic.{◌↔◌, ⊎_elim}
use mathlib.Core.Bool.{false}
use mathlib.Core.List.{[], ◌∷◌}
use native.Mathlib.Omega.{arith}
use native.Mathlib.Decide.{ℕ_discrete}
use lib.Dec.{T}
use lib.IntN.{ℤ, pos}
use Rattle.names.specs.Sets.{subset, has}
use Rattle.names.specs.code.Parts.{digit}
use Rattle.names.proofs.SetLaws.{digit-single-same, digit-single_other, subset_in, has_in, has_out, has_mono}
use Rattle.std.specs.List.{list_all}
use Rattle.predicates.specs.Predicates.{holds}
use Rattle.predicates.proofs.ListLaws.{or_l, or_cases}
use Rattle.state.specs.Model.{Store}
use Rattle.entries.specs.Entries.{learn}
use Rattle.steps.specs.Steps.{unexplained, blamed, swept}
use Rattle.asking.specs.Instants.{InAll, Fine}
use Rattle.runs.proofs.ReceiptMeaning.{Some, entries-each, learn-each, unexplained-all}

-- the set of one name is inside the sets that hold it
single-subset : (name s : ℕ) → T (has name s) → T (subset (2 ^ name) s)
single-subset name s h = subset_in (2 ^ name) s (λ m. go m (ℕ_discrete name m))
  where
    go : (m : ℕ) → Dec (name ≡ m) → digit (2 ^ name) m ≤ digit s m
    go m (yes e) = rw (← e) (omega (arith, digit-single-same name, has_out name s h))
    go m (no f) = omega (arith, digit-single_other name m f)

-- a predicate of one name is true for the sets that hold it
holds-single : (name s : ℕ) → T (holds s (2 ^ name ∷ [])) ↔ T (has name s)
unfolding holds
holds-single name s = (
  λ h. ⊎_elim (λ i. has_mono name (2 ^ name) s i (has_in name (2 ^ name) (digit-single-same name))) (λ f. absurd f) (or_cases (subset (2 ^ name) s) false h),
  λ h. or_l (subset (2 ^ name) s) false (single-subset name s h),
)

module _ (s : ℕ) where
  -- ---- step 2 alone

  module _ (k : Store) where
    cleared : (x : ℤ) → T (list_all (holds s) k.entries) → InAll s (unexplained k.entries k.held) x ↔ InAll s k.held x
    cleared x h = unexplained-all s x k.entries ((entries-each s k.entries).0 h) k.held

    swept_fine : (x : ℤ) → Fine s (swept k) x ↔ Fine s k x
    unfolding swept
    swept_fine x = (λ h. (h.0, (cleared x h.0).0 h.1), λ h. (h.0, (cleared x h.0).1 h.1))

    swept-some : Some s k → Some s (swept k)
    unfolding swept
    swept-some some h = let m = some h in (m.0, (cleared (pos m.0) h).1 m.1)

  -- ---- the violation

  module _ (name : ℕ) (k : Store) where
    name-learnt : T (list_all (holds s) (blamed name k).entries) ↔ (T (has name s) × T (list_all (holds s) k.entries))
    unfolding blamed
    name-learnt =
        let es = k.entries in
        Iff.trans (entries-each s (learn (2 ^ name ∷ []) es))
        (Iff.trans (learn-each s (2 ^ name ∷ []) es) (Iff.and (holds-single name s) (Iff.symm (entries-each s es))))

    pub blamed_fine : (x : ℤ) → Fine s (swept (blamed name k)) x ↔ (T (has name s) × Fine s k x)
    unfolding blamed
    blamed_fine x =
        Iff.trans (swept_fine (blamed name k) x)
        (λ h. let t = name-learnt.0 h.0 in (t.0, (t.1, h.1)), λ h. (name-learnt.1 (h.0, h.1.0), h.1.1))

    pub blamed-some : Some s k → Some s (swept (blamed name k))
    unfolding blamed
    blamed-some some = swept-some (blamed name k) (λ h. some (name-learnt.0 h).1)
