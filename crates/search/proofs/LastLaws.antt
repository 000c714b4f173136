-- The last name: with one name left to add, the sets that fit are s with one of the names that alone do for every predicate that s leaves false.
-- The idea: a set that fits and makes such a predicate true holds s joined with a term of it, which has a name more than s and so no fewer than
-- the set: they are the same. No contract cites this file. Assumes nothing.
use Prim.Native.Nat.{ℕ, ◌+◌, ◌≤◌, ◌<◌, min}
use mathlib.Core.Path.{◌≡◌, refl, sym, ap, subst, ◌∙◌}
use mathlib.Core.Logic.{inl, inr, ⊎_elim}
use mathlib.Core.Bool.{not, cond}
use mathlib.Core.List.{List, [], ◌∷◌}
use native.Mathlib.Nat.{le_trans}
use native.Mathlib.Omega.{arith}
use lib.Dec.{T, T_not, eqb, leb, leb→le, le→leb}
use borrow.Author.Tests.{eq-eqb, ne_eqb}
use lib.Count.{ones}
use Rattle.names.specs.Sets.{subset, set_union, minus}
use Rattle.names.specs.code.Parts.{shared, least_name}
use Rattle.names.proofs.SetLaws.{subset_refl, subset_trans, subset_antisym, union_left, union_right, union-least, ones_mono, ones-union}
use Rattle.names.proofs.PartLaws.{without-one, ones_added, shared-left, shared-right, shared-greatest, minus-subset, minus_mono, minus_add, minus-apart, union_add, subset-same, ones-more, single_part, least_name-least, least_name_in, least_name-one}
use Rattle.std.specs.List.{list_all}
use Rattle.predicates.specs.Lists.{In}
use Rattle.predicates.specs.Predicates.{holds}
use Rattle.predicates.proofs.ListLaws.{both, both_l, both_r, cond_ind}
use Rattle.predicates.proofs.PredicateLaws.{holds_in, holds_out, holds_mono}
use Rattle.search.specs.code.Search.{Fits, Best, gather, alone, narrowed}
use Rattle.search.proofs.SearchLaws.{best_none, best_of}

-- what is free once a term was tried: v is what it adds, n names
module _ (s t free v n : ℕ) (a : v ≡ minus t s) (b : n ≡ ones v) where
  abbrev after : ℕ
  after = cond (eqb (ones (set_union s t)) (ones s + 1)) (minus free t) free

  pub freed-one : n ≡ 1 → (r : ℕ) → r ≡ minus free t → r ≡ after
  freed-one k r e = rw (eq-eqb (ones (set_union s t)) (ones s + 1) (omega (arith, ones_added s t, ap ones a))) e

  pub freed-more : (n ≡ 1 → ⊥) → free ≡ after
  freed-more k = rw (ne_eqb (ones (set_union s t)) (ones s + 1) (λ e. k (omega (arith, ones_added s t, ap ones a)))) refl

module _ (limit s : ℕ) (last : ones s + 1 ≡ limit) where
  -- ---- the names that alone do for one predicate

  pub alone-above : (p : List ℕ) → T (subset s (alone limit s p))
  unfolding gather
  alone-above [] = subset_refl s
  alone-above (t ∷ p) =
      let rest = alone-above p in
      cond_ind (λ x. T (subset s x)) (leb (ones (set_union s t)) limit) (set_union (set_union s t) (alone limit s p)) (alone limit s p)
      (λ _. subset_trans s (alone limit s p) (set_union (set_union s t) (alone limit s p)) rest (union_right (set_union s t) (alone limit s p))) (λ _. rest)

  -- a term within the limit is part of them
  alone-has : (p : List ℕ) (t : ℕ) → In t p → ones (set_union s t) ≤ limit → T (subset (set_union s t) (alone limit s p))
  unfolding gather
  alone-has [] t m h = absurd m
  alone-has (v ∷ p) t (inl e) h =
      cond_ind (λ x. T (subset (set_union s t) x)) (leb (ones (set_union s v)) limit) (set_union (set_union s v) (alone limit s p)) (alone limit s p)
      (λ _. subst (λ (x : ℕ). T (subset (set_union s t) (set_union (set_union s x) (alone limit s p)))) e (union_left (set_union s t) (alone limit s p)))
      (λ n. absurd (T_not (leb (ones (set_union s v)) limit) n (subst (λ (x : ℕ). T (leb (ones (set_union s x)) limit)) e (le→leb (ones (set_union s t)) limit h))))
  alone-has (v ∷ p) t (inr m) h =
      let rest = alone-has p t m h in
      cond_ind (λ x. T (subset (set_union s t) x)) (leb (ones (set_union s v)) limit) (set_union (set_union s v) (alone limit s p)) (alone limit s p)
      (λ _. subset_trans (set_union s t) (alone limit s p) (set_union (set_union s v) (alone limit s p)) rest (union_right (set_union s v) (alone limit s p)))
      (λ _. rest)

  -- one name of them, beyond s, is what one of the terms adds
  alone_out : (p : List ℕ) (c : ℕ) → ones c ≡ 1 → (T (subset c s) → ⊥) → T (subset c (alone limit s p))
      → (t : ℕ) × In t p × (ones (set_union s t) ≤ limit) × T (subset c (set_union s t))
  unfolding gather
  alone_out [] c e f = λ h. absurd (f h)
  alone_out (t ∷ p) c e f =
      let rest = alone_out p c e f in
      cond_ind (λ x. T (subset c x) → (v : ℕ) × In v (t ∷ p) × (ones (set_union s v) ≤ limit) × T (subset c (set_union s v)))
      (leb (ones (set_union s t)) limit) (set_union (set_union s t) (alone limit s p)) (alone limit s p)
      (λ k h. ⊎_elim (λ i. (t, inl refl, leb→le (ones (set_union s t)) limit k, i)) (λ i. let w = rest i in (w.0, inr w.1, w.2, w.3))
      (single_part c (set_union s t) (alone limit s p) e h))
      (λ _ h. let w = rest h in (w.0, inr w.1, w.2, w.3))

  -- a set that fits, beyond a predicate that s leaves false, is s with a term of it
  fits-alone : (free u : ℕ) (p : List ℕ) (ps : List (List ℕ)) → Fits limit s free ps u → T (holds u p) → T (not (holds s p))
      → T (subset u (alone limit s p))
  fits-alone free u p ps f h n =
      let w = holds_out u p h in
      let t = w.0 in
      let wider : s ≡ set_union s t → ⊥ = λ e. T_not (holds s p) n (holds_in s p t w.1 (subst (λ (x : ℕ). T (subset t x)) (sym e) (union_right s t))) in
      let more = ones-more s (set_union s t) (union_left s t) wider in
      let part = union-least s t u f.above w.2 in
      let same : set_union s t ≡ u = subset-same (set_union s t) u part (omega (arith, f.few)) in
      subst (λ (x : ℕ). T (subset x (alone limit s p))) same (alone-has p t w.1 (le_trans (ones_mono (set_union s t) u part) f.few))

  -- s with one name that does alone makes the predicate true
  alone-holds : (p : List ℕ) (c : ℕ) → ones c ≡ 1 → (T (subset c s) → ⊥) → T (subset c (alone limit s p)) → T (holds (set_union s c) p)
  alone-holds p c e f h =
      let w = alone_out p c e f h in
      let t = w.0 in
      let part = union-least s c (set_union s t) (union_left s t) w.3 in
      let more = ones-more s (set_union s c) (union_left s c) (λ q. f (subst (λ (x : ℕ). T (subset c x)) (sym q) (union_right s c))) in
      let same : set_union s c ≡ set_union s t = subset-same (set_union s c) (set_union s t) part (omega (arith, w.2)) in
      holds_in (set_union s c) p t w.1 (subst (λ (x : ℕ). T (subset t x)) (sym same) (union_right s t))

  -- ---- for every predicate that s leaves false

  pub narrowed_stop : (ps : List (List ℕ)) → narrowed limit s s ps ≡ s
  unfolding narrowed
  narrowed_stop [] = refl
  narrowed_stop (p ∷ ps) =
      ap (λ (x : ℕ). narrowed limit s x ps)
      (cond_ind (λ x. x ≡ s) (holds s p) s (shared s (alone limit s p)) (λ _. refl)
      (λ _. subset_antisym (shared s (alone limit s p)) s (shared-left s (alone limit s p))
      (shared-greatest s s (alone limit s p) (subset_refl s) (alone-above p))))
      ∙ narrowed_stop ps

  -- what has all names of s keeps them
  pub narrowed-above : (m : ℕ) (ps : List (List ℕ)) → T (subset s m) → T (subset s (narrowed limit s m ps))
  unfolding narrowed
  narrowed-above m [] h = h
  narrowed-above m (p ∷ ps) h =
      narrowed-above (cond (holds s p) m (shared m (alone limit s p))) ps
      (cond_ind (λ x. T (subset s x)) (holds s p) m (shared m (alone limit s p)) (λ _. h) (λ _. shared-greatest s m (alone limit s p) h (alone-above p)))

  narrowed_in : (m u free : ℕ) (qs ps : List (List ℕ)) → T (subset u m) → Fits limit s free qs u → T (list_all (holds u) ps)
      → T (subset u (narrowed limit s m ps))
  unfolding narrowed
  narrowed_in m u free qs [] h f a = h
  narrowed_in m u free qs (p ∷ ps) h f a =
      narrowed_in (cond (holds s p) m (shared m (alone limit s p))) u free qs ps
      (cond_ind (λ x. T (subset u x)) (holds s p) m (shared m (alone limit s p)) (λ _. h)
      (λ n. shared-greatest u m (alone limit s p) h (fits-alone free u p qs f (both_l (holds u p) (list_all (holds u) ps) a) n)))
      f (both_r (holds u p) (list_all (holds u) ps) a)

  narrowed_part : (m : ℕ) (ps : List (List ℕ)) → T (subset (narrowed limit s m ps) m)
  unfolding narrowed
  narrowed_part m [] = subset_refl m
  narrowed_part m (p ∷ ps) =
      let n : ℕ = cond (holds s p) m (shared m (alone limit s p)) in
      subset_trans (narrowed limit s n ps) n m (narrowed_part n ps)
      (cond_ind (λ x. T (subset x m)) (holds s p) m (shared m (alone limit s p)) (λ _. subset_refl m) (λ _. shared-left m (alone limit s p)))

  narrowed-holds : (m : ℕ) (ps : List (List ℕ)) (c : ℕ) → ones c ≡ 1 → (T (subset c s) → ⊥) → T (subset c (narrowed limit s m ps))
      → T (list_all (holds (set_union s c)) ps)
  unfolding narrowed
  narrowed-holds m [] c e f h = tt
  narrowed-holds m (p ∷ ps) c e f h =
      both (holds (set_union s c) p) (list_all (holds (set_union s c)) ps)
      (cond_ind (λ x. T (subset c x) → T (holds (set_union s c) p)) (holds s p) m (shared m (alone limit s p))
      (λ k _. holds_mono s (set_union s c) p (union_left s c) k)
      (λ _ i. alone-holds p c e f (subset_trans c (shared m (alone limit s p)) (alone limit s p) i (shared-right m (alone limit s p))))
      (subset_trans c (narrowed limit s n ps) n h (narrowed_part n ps)))
      (narrowed-holds n ps c e f h)
    where
      n : ℕ
      n = cond (holds s p) m (shared m (alone limit s p))

  -- ---- one name is left of those to try

  pub one-all : (c : ℕ) (ps : List (List ℕ)) → ones c ≡ 1 → T (list_all (holds (set_union s c)) ps) → narrowed limit s (set_union s c) ps ≡ set_union s c
  one-all c ps one h =
      let m = set_union s c in
      let fits : Fits limit s c ps m =
      record { above = union_left s c; within = subset_refl m; few = omega (arith, ones-union s c, one); holding = h } in
      subset_antisym (narrowed limit s m ps) m (narrowed_part m ps) (narrowed_in m m c ps ps (subset_refl m) fits h)

  pub one_none : (c : ℕ) (ps : List (List ℕ)) → ones c ≡ 1 → (T (subset c s) → ⊥) → (T (list_all (holds (set_union s c)) ps) → ⊥)
      → narrowed limit s (set_union s c) ps ≡ s
  one_none c ps one apart f =
      let m = set_union s c in
      subset_antisym (narrowed limit s m ps) s (without-one s c (narrowed limit s m ps) one (narrowed_part m ps) (λ i. f (narrowed-holds m ps c one apart i)))
      (narrowed-above m ps (union_left s c))

  -- ---- the search with one name left

  module _ (enough free best : ℕ) (p : List ℕ) (ps : List (List ℕ)) (left_false : T (not (holds s p))) where
    abbrev names : ℕ
    names = narrowed limit s (set_union s free) (p ∷ ps)

    fits-names : (u : ℕ) → Fits limit s free (p ∷ ps) u → T (subset u names)
    fits-names u f = narrowed_in (set_union s free) u free (p ∷ ps) (p ∷ ps) f.within f f.holding

    -- a set that fits is more than s
    fits_more : (u : ℕ) → Fits limit s free (p ∷ ps) u → s ≡ u → ⊥
    fits_more u f e =
        T_not (holds s p) left_false (subst (λ (x : ℕ). T (holds x p)) (sym e) (both_l (holds u p) (list_all (holds u) ps) f.holding))

    -- no name does alone
    pub last_none : names ≡ s → Best enough limit s free (p ∷ ps) best best
    last_none e =
        best_none enough limit s free best (p ∷ ps) (λ u f.
        fits_more u f (subset_antisym s u f.above (subst (λ (x : ℕ). T (subset u x)) e (fits-names u f))))

    beyond : (u : ℕ) → T (subset s u) → (s ≡ u → ⊥) → 0 < minus u s
    beyond u h f = go (minus u s) (minus_add s u h) f
      where
        go : (d : ℕ) → s + d ≡ u → (s ≡ u → ⊥) → 0 < d
        go d e g = omega arith

    -- s with the least name that does alone
    pub last_found : (s ≡ names → ⊥) → Best enough limit s free (p ∷ ps) best (min (set_union s (least_name (minus names s))) best)
    last_found f = best_of enough limit s free best (p ∷ ps) (set_union s c) fits below
      where
        rest : ℕ
        rest = minus names s

        c : ℕ
        c = least_name rest

        some : 0 < rest
        some = beyond names (narrowed-above (set_union s free) (p ∷ ps) (union_left s free)) f

        one : ones c ≡ 1
        one = least_name-one rest some

        c_in : T (subset c names)
        c_in = subset_trans c rest names (least_name_in rest) (minus-subset names s)

        apart : T (subset c s) → ⊥
        apart h = minus-apart names s c (least_name_in rest) h one

        fits : Fits limit s free (p ∷ ps) (set_union s c)
        fits =
            record {
              above = union_left s c;
              within = union-least s c (set_union s free) (union_left s free) (subset_trans c names (set_union s free) c_in (narrowed_part (set_union s free) (p ∷ ps)));
              few = omega (arith, ones-union s c, one);
              holding = narrowed-holds (set_union s free) (p ∷ ps) c one apart c_in;
            }

        below : (u : ℕ) → Fits limit s free (p ∷ ps) u → set_union s c ≤ u
        below u g =
            omega (
              arith,
              union_add s c,
              minus_add s u g.above,
              least_name-least rest (minus u s) (minus_mono u names s (fits-names u g)) (beyond u g.above (fits_more u g)),
            )
