-- Sets of names spelt out, and masks of current names beside which all older names count as failed, make the same instants possible (`ByNames`).
-- The idea: of a set of names the mask has the current ones, and what a line asks of an older one is granted; the other way round, the names of the
-- mask and every older one are a set. Assumes nothing.
use Prim.Native.Nat.{ℕ, zero, suc, ◌≤◌, ◌<◌}
use mathlib.Core.Path.{◌≡◌, refl, subst}
use mathlib.Core.Logic.{◌⊎◌, inl, inr, ⊎_elim}
use mathlib.Core.Bool.{◌||◌, not}
use mathlib.Core.List.{List, [], ◌∷◌}
use native.Mathlib.Omega.{arith}
use lib.Dec.{T, T_not, ltb, ltb→lt, lt→ltb}
use lib.ListN.{get_or}
use lib.IntN.{ℤ, pos, ◌+ℤ◌}
use Rattle.names.specs.Sets.{subset, has}
use Rattle.names.specs.code.Parts.{digit}
use Rattle.names.proofs.SetLaws.{digit_lt, digit-union, subset_out, subset_in, has_in, has_out}
use Rattle.predicates.specs.Lists.{In}
use Rattle.predicates.specs.Predicates.{holds}
use Rattle.predicates.proofs.ListLaws.{split, or_l, or_r, or_cases}
use Rattle.predicates.proofs.PredicateLaws.{holds_in, holds_out}
use Rattle.epochs.specs.Epochs.{older}
use Rattle.epochs.proofs.EpochLaws.{below, digit-older}
use Rattle.runs.specs.Book.{Line, advanced, heard, blames, failed_under, sees, Walk}
use Rattle.runs.specs.ByNames.{Names, TermFails, Makes, NameWalk, Counted, ByNames}

module _ (ks : List ℕ) (s : ℕ) where
  -- an identifier has failed under es where s has it, or where its epoch there is an older one
  failed_out : (es : List ℕ) (n : ℕ) → T (has n (failed_under ks s es)) → T (has n s) ⊎ (get_or es n 0 < get_or ks n 0)
  failed_out es n h =
      ⊎_elim
      (λ b. inr b.0)
      (λ b. inl (has_in n s (omega (arith, has_out n (failed_under ks s es) h, digit-union s (older es ks) n, digit-older es ks n, b.1, digit_lt s n))))
      (below (get_or es n 0) (get_or ks n 0))

  failed_in : (es : List ℕ) (n : ℕ) → T (has n s) ⊎ (get_or es n 0 < get_or ks n 0) → T (has n (failed_under ks s es))
  failed_in es n (inl h) =
      has_in n (failed_under ks s es) (omega (arith, has_out n s h, digit-union s (older es ks) n, digit_lt (older es ks) n))
  failed_in es n (inr h) =
      ⊎_elim
      (λ b. has_in n (failed_under ks s es) (omega (arith, digit-union s (older es ks) n, digit-older es ks n, b.1, digit_lt s n)))
      (λ b. absurd (omega (arith, b.0, h)))
      (below (get_or es n 0) (get_or ks n 0))

  -- each name of t is in u
  inside : (t u : ℕ) → ((n : ℕ) → T (has n t) → T (has n u)) → T (subset t u)
  inside t u f = subset_in t u (λ n. go n (split (has n t)))
    where
      none : (d e : ℕ) → (d ≡ 1 → ⊥) → d < 2 → d ≤ e
      none zero e z l = omega arith
      none (suc zero) e z l = absurd (z refl)
      none (suc (suc d)) e z l = absurd (omega (arith, l))

      go : (n : ℕ) → T (has n t) ⊎ T (not (has n t)) → digit t n ≤ digit u n
      go n (inl h) = omega (arith, digit_lt t n, has_out n u (f n h))
      go n (inr h) = none (digit t n) (digit u n) (λ e. T_not (has n t) h (has_in n t e)) (digit_lt t n)

  -- ---- from sets of names to masks

  module _ (F : Names) (counted : Counted F ks s) where
    name_failed : (es : List ℕ) (n : ℕ) → T (F n (get_or es n 0)) → T (has n (failed_under ks s es))
    name_failed es n f =
        failed_in es n (⊎_elim (λ b. inr b.0) (λ b. inl (counted n (get_or es n 0) f b.0)) (below (get_or es n 0) (get_or ks n 0)))

    makes_holds : (es p : List ℕ) → Makes F es p → T (holds (failed_under ks s es) p)
    makes_holds es [] m = absurd m
    makes_holds es (t ∷ p) (inl f) =
        holds_in (failed_under ks s es) (t ∷ p) t (inl refl) (inside t (failed_under ks s es) (λ n h. name_failed es n (f n h)))
    makes_holds es (t ∷ p) (inr m) =
        let r = holds_out (failed_under ks s es) p (makes_holds es p m) in holds_in (failed_under ks s es) (t ∷ p) r.0 (inr r.1) r.2

    walk-names : (ls : List Line) (y x : ℤ) → NameWalk F ls y x → Walk (sees ks s) ls y x
    unfolding sees
    walk-names [] y x w = w
    walk-names (advanced lo hi ∷ ls) y x w = (w.0, w.1, w.2, walk-names ls (y +ℤ pos w.0) x w.3)
    walk-names (heard es d ∷ ls) y x w = (⊎_elim (λ i. inl i) (λ i. inr (makes_holds es d.terms i)) w.0, walk-names ls y x w.1)
    walk-names (blames es n ∷ ls) y x w = (name_failed es n w.0, walk-names ls y x w.1)

  -- ---- from masks to sets of names: those of s, and every older one

  all_failed : Names
  all_failed n e = has n s || ltb e (get_or ks n 0)

  all-counted : Counted all_failed ks s
  unfolding all_failed
  all-counted n e f h =
      ⊎_elim (λ k. k) (λ k. let l = ltb→lt e (get_or ks n 0) k in let c : ⊥ = omega arith in absurd c) (or_cases (has n s) (ltb e (get_or ks n 0)) f)

  failed_name : (es : List ℕ) (n : ℕ) → T (has n (failed_under ks s es)) → T (all_failed n (get_or es n 0))
  unfolding all_failed
  failed_name es n h =
      ⊎_elim
      (λ k. or_l (has n s) (ltb (get_or es n 0) (get_or ks n 0)) k)
      (λ k. or_r (has n s) (ltb (get_or es n 0) (get_or ks n 0)) (lt→ltb (get_or es n 0) (get_or ks n 0) k))
      (failed_out es n h)

  holds_makes : (es p : List ℕ) → T (holds (failed_under ks s es) p) → Makes all_failed es p
  holds_makes es p h = let r = holds_out (failed_under ks s es) p h in go p r.0 r.1 r.2
    where
      fails : (t : ℕ) → T (subset t (failed_under ks s es)) → TermFails all_failed es t
      fails t k n m =
          let u = failed_under ks s es in
          failed_name es n (has_in n u (omega (arith, has_out n t m, subset_out t u k n, digit_lt u n)))

      go : (p : List ℕ) (t : ℕ) → In t p → T (subset t (failed_under ks s es)) → Makes all_failed es p
      go [] t m k = absurd m
      go (u ∷ p) t (inl e) k = inl (fails u (subst (λ (z : ℕ). T (subset z (failed_under ks s es))) e k))
      go (u ∷ p) t (inr m) k = inr (go p t m k)

  names-walk : (ls : List Line) (y x : ℤ) → Walk (sees ks s) ls y x → NameWalk all_failed ls y x
  unfolding sees
  names-walk [] y x w = w
  names-walk (advanced lo hi ∷ ls) y x w = (w.0, w.1, w.2, names-walk ls (y +ℤ pos w.0) x w.3)
  names-walk (heard es d ∷ ls) y x w = (⊎_elim (λ i. inl i) (λ i. inr (holds_makes es d.terms i)) w.0, names-walk ls y x w.1)
  names-walk (blames es n ∷ ls) y x w = (failed_name es n w.0, names-walk ls y x w.1)

pub by_names : ByNames
unfolding ByNames
by_names limit b x =
    let ks = b.head.epochs in (
      λ h. (h.1, h.2, (h.4.0, walk-names ks h.1 h.0 h.3 b.lines h.4.0 x h.4.1)),
      λ h. (all_failed ks h.0, h.0, h.1, all-counted ks h.0, (h.2.0, names-walk ks h.0 b.lines h.2.0 x h.2.1)),
    )
