-- The terms of a row: in normal form and each fitting, tested from the last one on.
-- The idea: a term that is below the first of those behind it is below all of them, and one that lies in none of them leaves the row normal; one
-- with a name that none of them has lies in none. No contract cites this file. Assumes nothing.
use Prim.Native.Nat.{ℕ, zero, suc, ◌+◌, ◌-◌, ◌≤◌, ◌<◌}
use mathlib.Core.Path.{◌≡◌, refl, sym, ap, subst, ◌∙◌}
use mathlib.Core.Logic.{◌⊎◌, inl, inr}
use mathlib.Core.Bool.{Bool, true, false, ◌&&◌, not}
use mathlib.Core.List.{List, [], ◌∷◌}
use native.Mathlib.Omega.{arith}
use lib.Dec.{T, T_not, not_T, ltb, ltb→lt, lt→ltb}
use lib.ListN.{length, get_or, take, drop, drop_of_length-le, length-drop}
use lib.Seq.{take_all}
use Rattle.names.specs.Sets.{subset, set_union, has, no_set}
use Rattle.names.proofs.SetLaws.{test_ext, subset_trans, union_left, union_right, has-empty, has_mono, has_not_union}
use Rattle.std.specs.List.{list_any, list_all}
use Rattle.predicates.specs.Lists.{In}
use Rattle.predicates.specs.Predicates.{precedes, is_normal}
use Rattle.predicates.proofs.ListLaws.{both, both_l, both_r, true_T, T_false, split, any_out, any_in, all_in, all_out}
use Rattle.predicates.proofs.LoopLaws.{drop_next}
use Rattle.state.specs.Form.{term_fits}

none : (b : Bool) → (T b → ⊥) → b ≡ false
none b f = T_false b (not_T b f)

-- the terms from i on are in normal form and none is above 28; the first of them is `next`, or no set; their names lie in `names`, and the own one
-- is there only where one of them has it
pub record Tested (own : ℕ) (p : List ℕ) (i next names : ℕ) : Type 0 where
  pub within : i ≤ length p
  pub normal : T (is_normal (drop i p))
  pub above : (u : ℕ) → In u (drop i p) → (next ≤ u) × (u < no_set)
  pub first : (next ≡ no_set) ⊎ In next (drop i p)
  pub inside : (u : ℕ) → In u (drop i p) → T (subset u names)
  pub owned : T (has own names) → (u : ℕ) × In u (drop i p) × T (has own u)

module _ (own : ℕ) where
  -- in normal form, and each term fits
  fitting : List ℕ → Bool
  fitting p = is_normal p && list_all (term_fits own) p

  -- what is said of t and the terms behind it, by its parts
  fitting_out : (t : ℕ) (q : List ℕ) → T (fitting (t ∷ q)) → T (list_all (λ u. precedes t u) q) × T (fitting q) × T (term_fits own t)
  unfolding is_normal fitting
  fitting_out t q h =
      let normal = both_l (list_all (λ u. precedes t u) q && is_normal q) _ h in
      let fits = both_r (list_all (λ u. precedes t u) q && is_normal q) _ h in
      (both_l (list_all (λ u. precedes t u) q) _ normal, both (is_normal q) _ (both_r (list_all (λ u. precedes t u) q) _ normal) (both_r (term_fits own t) _ fits), both_l (term_fits own t) _ fits)

  fitting_drop : (p : List ℕ) (i : ℕ) → T (fitting p) → T (fitting (drop i p))
  fitting_drop p zero h = h
  fitting_drop [] (suc i) h = h
  fitting_drop (t ∷ p) (suc i) h = fitting_drop p i (fitting_out t p h).1

  pub tested_none : (p : List ℕ) → Tested own p (length p) no_set 0
  unfolding is_normal
  tested_none p =
      let empty : drop (length p) p ≡ [] = drop_of_length-le p {i = length p} (omega arith) in
      let never : (u : ℕ) → In u (drop (length p) p) → ⊥ = λ u m. subst (λ (q : List ℕ). In u q) empty m in
      record {
        within = omega arith;
        normal = rw empty tt;
        above = λ u m. absurd (never u m);
        first = inl refl;
        inside = λ u m. absurd (never u m);
        owned = λ h. absurd (T_not (has own 0) (has-empty own) h);
      }

  module _ (p : List ℕ) (i next names : ℕ) (w : Tested own p i next names) (some : 0 < i) (t : ℕ) (e : t ≡ get_or p (i - 1) 0) where
    here : drop (i - 1) p ≡ t ∷ drop i p
    here =
        let back : i - 1 + 1 ≡ i = omega arith in
        drop_next p (i - 1) (omega (arith, w.within)) ∙ rw (back, e)

    whole : T (fitting p) → T (fitting (t ∷ drop i p))
    whole h = rw here at (fitting_drop p (i - 1) h)

    pub tested_high : next ≤ t → is_normal p && list_all (term_fits own) p ≡ false
    unfolding term_fits is_normal fitting
    tested_high h = none (fitting p) (λ k. go (fitting_out t (drop i p) (whole k)) w.first)
      where
        go : T (list_all (λ u. precedes t u) (drop i p)) × T (fitting (drop i p)) × T (term_fits own t) → (next ≡ no_set) ⊎ In next (drop i p) → ⊥
        go f (inl z) = let l = ltb→lt t no_set (both_l (ltb t no_set) _ (both_r (ltb 0 t) _ f.2)) in omega (arith, l)
        go f (inr m) = let l = ltb→lt t next (both_l (ltb t next) _ (all_out (λ u. precedes t u) (drop i p) f.0 next m)) in omega (arith, l)

    module _ (r : Bool) (c : r ≡ list_any (λ u. subset t u) (take (length p - i) (drop i p))) where
      behind : list_any (λ u. subset t u) (drop i p) ≡ r
      behind = ap (λ (q : List ℕ). list_any (λ u. subset t u) q) (sym (take_all (length p - i) (drop i p) (omega (arith, length-drop i p)))) ∙ sym c

      pub tested_inside : r ≡ true → is_normal p && list_all (term_fits own) p ≡ false
      unfolding is_normal fitting
      tested_inside k =
          none (fitting p) (λ h.
          let m = any_out (λ u. subset t u) (drop i p) (true_T _ (behind ∙ k)) in
          T_not (subset t m.0) (both_r (ltb t m.0) _ (all_out (λ u. precedes t u) (drop i p) (fitting_out t (drop i p) (whole h)).0 m.0 m.1)) m.2)

      pub contained-none : r ≡ false → list_any (λ u. subset t u) (drop i p) ≡ false
      contained-none k = behind ∙ k

    -- a name that none of the others has
    pub apart_none : subset t names ≡ false → list_any (λ u. subset t u) (drop i p) ≡ false
    apart_none k =
        none (list_any (λ u. subset t u) (drop i p)) (λ h.
        let m = any_out (λ u. subset t u) (drop i p) h in
        subst (λ (b : Bool). T b) k (subset_trans t m.0 names m.2 (w.inside m.0 m.1)))

    pub tested_next : t < next → list_any (λ u. subset t u) (drop i p) ≡ false → Tested own p (i - 1) t (set_union names t)
    unfolding is_normal
    tested_next l k =
        let low : t < no_set = go w.first in
        record {
          within = omega (arith, w.within);
          normal = rw here (both (list_all (λ u. precedes t u) (drop i p)) _
              (all_in (λ u. precedes t u) (drop i p) (λ u m. both (ltb t u) _ (lt→ltb t u (omega (arith, (w.above u m).0)))
              (not_T (subset t u) (λ h. subst (λ (b : Bool). T b) k (any_in (λ u. subset t u) (drop i p) u m h)))))
              w.normal);
          above = λ u m. each-above u low (rw here at m);
          first = inr (rw here (inl refl));
          inside = λ u m. each-inside u (rw here at m);
          owned = λ h. rw here (each_owned h (split (has own t)));
        }
      where
        go : (next ≡ no_set) ⊎ In next (drop i p) → t < no_set
        go (inl z) = omega arith
        go (inr m) = omega (arith, (w.above next m).1)

        each-above : (u : ℕ) → t < no_set → In u (t ∷ drop i p) → (t ≤ u) × (u < no_set)
        each-above u low (inl z) = (omega arith, omega arith)
        each-above u low (inr m) = (omega (arith, (w.above u m).0), (w.above u m).1)

        each-inside : (u : ℕ) → In u (t ∷ drop i p) → T (subset u (set_union names t))
        each-inside u (inl z) = subst (λ (x : ℕ). T (subset x (set_union names t))) (sym z) (union_right names t)
        each-inside u (inr m) = subset_trans u names (set_union names t) (w.inside u m) (union_left names t)

        each_owned : T (has own (set_union names t)) → T (has own t) ⊎ T (not (has own t)) → (u : ℕ) × In u (t ∷ drop i p) × T (has own u)
        each_owned h (inl y) = (t, inl refl, y)
        each_owned h (inr n) = old (split (has own names))
          where
            old : T (has own names) ⊎ T (not (has own names)) → (u : ℕ) × In u (t ∷ drop i p) × T (has own u)
            old (inl y) = let m = w.owned y in (m.0, inr m.1, m.2)
            old (inr z) = absurd (T_not (has own (set_union names t)) (has_not_union own names t z n) h)

  pub tested_done : (p : List ℕ) (i next names : ℕ) → Tested own p i next names → i ≤ 0 → ltb 0 next && not (has own names) ≡ is_normal p && list_all (term_fits own) p
  unfolding term_fits fitting
  tested_done p i next names v z =
      let zeroth : i ≡ 0 = omega arith in
      go (subst (λ (j : ℕ). Tested own p j next names) zeroth v)
    where
      go : Tested own p 0 next names → ltb 0 next && not (has own names) ≡ fitting p
      go w =
          test_ext (ltb 0 next && not (has own names)) (fitting p)
          (λ h. both (is_normal p) _ w.normal (all_in (term_fits own) p (λ u m.
          let l = ltb→lt 0 next (both_l (ltb 0 next) _ h) in
          both (ltb 0 u) _ (lt→ltb 0 u (omega (arith, (w.above u m).0))) (both (ltb u no_set) _ (lt→ltb u no_set (w.above u m).1)
          (not_T (has own u) (λ y. T_not (has own names) (both_r (ltb 0 next) _ h) (has_mono own u names (w.inside u m) y)))))))
          (λ h. let fits = all_out (term_fits own) p (both_r (is_normal p) _ h) in
          both (ltb 0 next) _ (lt→ltb 0 next (low fits w.first))
          (not_T (has own names) (λ y. let m = w.owned y in T_not (has own m.0) (both_r (ltb m.0 no_set) _ (both_r (ltb 0 m.0) _ (fits m.0 m.1))) m.2)))
        where
          low : ((u : ℕ) → In u p → T (term_fits own u)) → (next ≡ no_set) ⊎ In next p → 0 < next
          low fits (inl e) = omega arith
          low fits (inr m) = ltb→lt 0 next (both_l (ltb 0 next) _ (fits next m))
