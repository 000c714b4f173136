-- A predicate's mark: what it decides of a set and of another predicate, and how it is made.
-- The idea: a set of one name makes a predicate true only by a term that is that name, or by the empty one; so what p has of such terms, q must
-- have if p implies q. No contract cites this file. Assumes nothing.
use mathlib.Core.Path.{◌≡◌, refl, sym, ap, subst, ◌∙◌}
use mathlib.Core.Bool.{Bool, true, false, not, cond}
use mathlib.Core.Logic.{inl, inr, ⊎_elim}
use mathlib.Core.List.{List, [], ◌∷◌, ◌++◌}
use Prim.Native.Nat.{ℕ, ◌-◌, ◌^◌, ◌<◌}
use native.Mathlib.Nat.{mod-eq_of_lt}
use native.Mathlib.Omega.{arith}
use native.Mathlib.Decide.{ℕ_discrete}
use borrow.Author.Tests.{eq-eqb}
use lib.Bits.{and_zero_r, and_mask}
use lib.Count.{ones}
use lib.Dec.{T, T_not, not_T, eqb, eqb→eq, leb, leb→le, le→leb}
use Rattle.names.specs.Sets.{subset, set_union}
use Rattle.names.specs.code.Parts.{digit}
use Rattle.names.specs.code.Parts.{shared}
use Rattle.names.proofs.SetLaws.{digit-union, and_subset, subset-empty, digit-empty, digits_ext, subset_trans, empty-subset, union_left, union_right, union-least, union-none, union_comm, ones_none, union_assoc}
use Rattle.names.proofs.PartLaws.{digit-shared, shared-left, shared-right, subset-same}
use Rattle.std.specs.List.{list_all, fold}
use Rattle.predicates.specs.Lists.{In}
use Rattle.predicates.specs.Predicates.{holds, implies}
use Rattle.predicates.specs.code.Marks.{mark_of, singles}
use Rattle.predicates.proofs.ListLaws.{true_T, T_true, T_false, both_l, both_r, or_l, or_r, cond_ind, all_out}
use Rattle.predicates.proofs.PredicateLaws.{holds_in, holds_out, holds_mono, implies_out}

-- ---- a set that shares a name with a term of one name contains that term

single-inside : (s u : ℕ) → ones u ≡ 1 → (shared s u ≡ 0 → ⊥) → T (subset u s)
single-inside s u e f = go (ℕ_discrete (ones (shared s u)) 0)
  where
    go : Dec (ones (shared s u) ≡ 0) → T (subset u s)
    go (yes z) = absurd (f (ones_none (shared s u) z))
    go (no g) =
        let same : shared s u ≡ u = subset-same (shared s u) u (shared-right s u) (omega (arith, e, g)) in
        subst (λ (x : ℕ). T (subset x s)) same (shared-left s u)

shared_neither : (s a b : ℕ) → shared s a ≡ 0 → shared s b ≡ 0 → shared s (set_union a b) ≡ 0
shared_neither s a b p q =
    digits_ext (shared s (set_union a b)) 0 (λ n.
    omega (arith, digit-shared s (set_union a b) n, digit-union a b n, digit-shared s a n, digit-shared s b n, ap (λ (x : ℕ). digit x n) p, ap (λ (x : ℕ). digit x n) q, digit-empty n))

pub singles-holds : (s : ℕ) (p : List ℕ) → (shared s (singles p) ≡ 0 → ⊥) → T (holds s p)
unfolding holds singles shared
singles-holds s [] f = absurd (f (and_zero_r s))
singles-holds s (u ∷ p) f =
    cond_ind (λ (x : ℕ). (shared s x ≡ 0 → ⊥) → T (holds s (u ∷ p))) (eqb (ones u) 1) (set_union u (singles p)) (singles p)
    (λ e g. either (eqb→eq (ones u) 1 e) g (singles-holds s p) (ℕ_discrete (shared s (singles p)) 0))
    (λ _ g. or_r (subset u s) (holds s p) (singles-holds s p g)) f
  where
    either : ones u ≡ 1 → (shared s (set_union u (singles p)) ≡ 0 → ⊥) → ((shared s (singles p) ≡ 0 → ⊥) → T (holds s p))
        → Dec (shared s (singles p) ≡ 0) → T (holds s (u ∷ p))
    either e g rest (yes z) = or_l (subset u s) (holds s p) (single-inside s u e (λ w. g (shared_neither s u (singles p) w z)))
    either e g rest (no h) = or_r (subset u s) (holds s p) (rest h)

-- ---- a name that makes the predicate true alone is one of them

singles_in : (t : ℕ) (p : List ℕ) → In t p → ones t ≡ 1 → T (subset t (singles p))
unfolding singles
singles_in t [] m e = elim m [ ]
singles_in t (u ∷ p) m e =
    cond_ind (λ (x : ℕ). T (subset t x)) (eqb (ones u) 1) (set_union u (singles p)) (singles p)
    (λ _. ⊎_elim (λ d. subst (λ (x : ℕ). T (subset t (set_union x (singles p)))) d (union_left t (singles p)))
    (λ k. subset_trans t (singles p) (set_union u (singles p)) (singles_in t p k e) (union_right u (singles p))) m)
    (λ n. ⊎_elim (λ d. absurd (T_not (eqb (ones u) 1) n (true_T (eqb (ones u) 1) (eq-eqb (ones u) 1 (ap ones (sym d) ∙ e))))) (λ k. singles_in t p k e) m)

singles-least : (p : List ℕ) (s : ℕ) → ((t : ℕ) → In t p → ones t ≡ 1 → T (subset t s)) → T (subset (singles p) s)
unfolding singles
singles-least [] s f = empty-subset s
singles-least (u ∷ p) s f =
    let rest : T (subset (singles p) s) = singles-least p s (λ t m. f t (inr m)) in
    cond_ind (λ (x : ℕ). T (subset x s)) (eqb (ones u) 1) (set_union u (singles p)) (singles p)
    (λ e. union-least u (singles p) s (f u (inl refl) (eqb→eq (ones u) 1 e)) rest) (λ _. rest)

-- a set of one name contains no term, or the empty one, or that of its name
one_holds : (t : ℕ) (q : List ℕ) → ones t ≡ 1 → T (holds t q) → T (not (holds 0 q)) → T (subset t (singles q))
one_holds t q e h n = let r = holds_out t q h in go r.0 r.1 r.2 (ℕ_discrete (ones r.0) 0)
  where
    go : (u : ℕ) → In u q → T (subset u t) → Dec (ones u ≡ 0) → T (subset t (singles q))
    go u m k (yes z) = absurd (T_not (holds 0 q) n (holds_in 0 q u m (subst (λ (x : ℕ). T (subset x 0)) (sym (ones_none u z)) (empty-subset 0))))
    go u m k (no f) =
        let same : u ≡ t = subset-same u t k (omega (arith, e, f)) in
        subst (λ (x : ℕ). T (subset x (singles q))) same (singles_in u q m (ap ones same ∙ e))

-- ---- what the names that decide alone tell: p implies no q that has fewer of them, unless q is true whatever has failed

implies-mark : (p q : List ℕ) → T (implies p q) → T (not (holds 0 q)) → T (subset (mark_of p) (singles q))
unfolding mark_of implies
implies-mark p q i n =
    cond_ind (λ (x : ℕ). T (subset x (singles q))) (holds 0 p) (2 ^ 32 - 1) (singles p) (λ h. absurd (T_not (holds 0 q) n (implies_out p q i 0 h)))
    (λ _. singles-least p (singles q) (λ t m e. one_holds t q e (all_out (λ u. holds u q) p i t m) n))

-- a and b are the marks of p and q
pub implies_not : (p q : List ℕ) (a b : ℕ) → a ≡ mark_of p → b ≡ mark_of q → a < 2 ^ 32 → subset a b ≡ false → implies p q ≡ false
unfolding mark_of
implies_not p q a b f g l h =
    let outside : T (not (subset a b)) = subst (λ (x : Bool). T (not x)) (sym h) tt in
    T_false (implies p q) (not_T (implies p q) (λ i.
    cond_ind (λ (x : ℕ). b ≡ x → ⊥) (holds 0 q) (2 ^ 32 - 1) (singles q)
    (λ _ e. T_not (subset a b) outside (rw e (and_subset a (2 ^ 32 - 1) (and_mask a 32 ∙ mod-eq_of_lt l))))
    (λ k e. T_not (subset a b) outside (rw (f, e) (implies-mark p q i k))) g))

pub holds-mark : (s a r : ℕ) (p : List ℕ) → a ≡ mark_of p → r ≡ shared s a → (r ≡ 0 → ⊥) → holds s p ≡ true
unfolding mark_of
holds-mark s a r p e d f =
    T_true (holds s p)
    (cond_ind (λ (x : ℕ). a ≡ x → T (holds s p)) (holds 0 p) (2 ^ 32 - 1) (singles p) (λ h _. holds_mono 0 s p (empty-subset s) h)
    (λ _ k. singles-holds s p (λ z. f (d ∙ ap (λ (x : ℕ). shared s x) k ∙ z))) e)

-- ---- what one term adds

-- the empty term adds no name
singles-few : (t : ℕ) (p : List ℕ) → leb (ones t) 1 ≡ true → singles (t ∷ p) ≡ set_union t (singles p)
unfolding singles set_union
singles-few t p h =
    cond_ind (λ (x : ℕ). x ≡ set_union t (singles p)) (eqb (ones t) 1) (set_union t (singles p)) (singles p) (λ _. refl) (λ n. empty n)
  where
    empty : T (not (eqb (ones t) 1)) → singles p ≡ set_union t (singles p)
    empty n =
        let other : ones t ≡ 1 → ⊥ = λ e. T_not (eqb (ones t) 1) n (true_T (eqb (ones t) 1) (eq-eqb (ones t) 1 e)) in
        let none : t ≡ 0 = ones_none t (omega (arith, other, leb→le (ones t) 1 (true_T (leb (ones t) 1) h))) in
        rw none

singles_many : (t : ℕ) (p : List ℕ) → leb (ones t) 1 ≡ false → singles (t ∷ p) ≡ singles p
unfolding singles
singles_many t p h =
    cond_ind (λ (x : ℕ). x ≡ singles p) (eqb (ones t) 1) (set_union t (singles p)) (singles p)
    (λ e. absurd (T_not (leb (ones t) 1) (subst (λ (b : Bool). T (not b)) (sym h) tt) (le→leb (ones t) 1 (omega (arith, eqb→eq (ones t) 1 e))))) (λ _. refl)

pub alone-few : (t : ℕ) → leb (ones t) 1 ≡ true → singles (t ∷ []) ≡ t
unfolding singles
alone-few t h = singles-few t [] h ∙ union-none t

pub alone_many : (t : ℕ) → leb (ones t) 1 ≡ false → singles (t ∷ []) ≡ 0
unfolding singles
alone_many t h = singles_many t [] h

singles-first : (t : ℕ) (p : List ℕ) → singles (t ∷ p) ≡ set_union (singles (t ∷ [])) (singles p)
unfolding singles
singles-first t p = go (eqb (ones t) 1)
  where
    go : (b : Bool) → cond b (set_union t (singles p)) (singles p) ≡ set_union (cond b (set_union t 0) 0) (singles p)
    go true = rw (union-none t)
    go false = sym (union_comm 0 (singles p) ∙ union-none (singles p))

-- the names that the terms add one after the other
pub fold-singles : (m : ℕ) (p : List ℕ) → fold (λ a t. set_union a (singles (t ∷ []))) m p ≡ set_union m (singles p)
unfolding singles
fold-singles m [] = sym (union-none m)
fold-singles m (t ∷ p) =
    fold-singles (set_union m (singles (t ∷ []))) p ∙ union_assoc m (singles (t ∷ [])) (singles p)
    ∙ ap (λ (x : ℕ). set_union m x) (sym (singles-first t p))

-- zeros behind the terms count for nothing
pub singles-zeros : (p l : List ℕ) → T (list_all (λ t. eqb t 0) l) → singles (p ++ l) ≡ singles p
unfolding singles ones
singles-zeros [] [] z = refl
singles-zeros [] (t ∷ l) z =
    let none : t ≡ 0 = eqb→eq t 0 (both_l (eqb t 0) _ z) in rw none (singles-zeros [] l (both_r (eqb t 0) _ z))
singles-zeros (t ∷ p) l z = rw (singles-zeros p l z)

-- without the empty term they are the mark
pub mark-singles : (p : List ℕ) → ((t : ℕ) → In t p → 0 < t) → mark_of p ≡ singles p
unfolding mark_of
mark-singles p f =
    cond_ind (λ (x : ℕ). x ≡ singles p) (holds 0 p) (2 ^ 32 - 1) (singles p)
    (λ h. let r = holds_out 0 p h in absurd (omega (arith, f r.0 r.1, subset-empty r.0 r.2))) (λ _. refl)
