-- Terms of one name as one mask, and the other terms apart.
-- The idea: a set makes a term of one name true where it shares a name with it, so that all of them together are one mask to share a name with; and
-- with one name left to add, each of them is a name that does. No contract cites this file. Assumes nothing.
use Prim.Native.Nat.{ℕ, ◌+◌, ◌≤◌, ◌<◌}
use mathlib.Core.Path.{◌≡◌, refl, sym, ap, subst, ◌∙◌}
use mathlib.Core.Logic.{◌⊎◌, inl, inr}
use mathlib.Core.Bool.{true, not, cond}
use mathlib.Core.List.{List, [], ◌∷◌}
use native.Mathlib.Omega.{arith}
use borrow.Author.Tests.{le-leb}
use lib.Dec.{T, T_not, eqb→eq, leb}
use lib.Count.{ones}
use Rattle.names.specs.Sets.{subset, set_union}
use Rattle.names.specs.code.Parts.{shared}
use Rattle.names.proofs.SetLaws.{test_ext, digit-union, digits_ext, subset-empty, subset_out, subset_trans, union_left, union_right, union_left_comm, ones-empty, ones-union, union-none}
use Rattle.names.proofs.PartLaws.{shared-greatest}
use Rattle.std.specs.List.{filter}
use Rattle.predicates.specs.Lists.{In}
use Rattle.predicates.specs.Predicates.{holds}
use Rattle.predicates.specs.code.Marks.{singles}
use Rattle.predicates.proofs.ListLaws.{T_true, T_false, split, cond_ind, keep_in, keep_out}
use Rattle.predicates.proofs.PredicateLaws.{holds_in, holds_out}
use Rattle.predicates.proofs.MarkLaws.{singles-holds}
use Rattle.search.specs.declared.rows.Row.{Row}
use Rattle.search.specs.code.Search.{gather, alone, is_single, terms_of, rests_of, PartedRow, several}

-- ---- one term

is_single-one : (t : ℕ) → T (is_single t) → ones t ≡ 1
is_single-one t h = eqb→eq (ones t) 1 h

one_not_empty : (c : ℕ) → ones c ≡ 1 → c ≡ 0 → ⊥
one_not_empty c e z = absurd (omega (arith, e, ap ones z, ones-empty))

-- ---- the mask

pub singles_in : (p : List ℕ) (t : ℕ) → In t p → T (is_single t) → T (subset t (singles p))
unfolding singles
singles_in [] t m h = absurd m
singles_in (v ∷ p) t (inl e) h =
    cond_ind (λ x. T (subset t x)) (is_single v) (set_union v (singles p)) (singles p)
    (λ _. subst (λ (x : ℕ). T (subset x (set_union v (singles p)))) (sym e) (union_left v (singles p)))
    (λ n. absurd (T_not (is_single v) n (subst (λ (x : ℕ). T (is_single x)) e h)))
singles_in (v ∷ p) t (inr m) h =
    let rest = singles_in p t m h in
    cond_ind (λ x. T (subset t x)) (is_single v) (set_union v (singles p)) (singles p)
    (λ _. subset_trans t (singles p) (set_union v (singles p)) rest (union_right v (singles p))) (λ _. rest)

module _ (p : List ℕ) (s : ℕ) where
  pub holds_hit : 0 < shared s (singles p) → holds s p ≡ true
  holds_hit h = T_true (holds s p) (singles-holds s p (λ z. absurd (omega (arith, z))))

  pub holds_miss : shared s (singles p) ≡ 0 → holds s p ≡ holds s (several p)
  unfolding several
  holds_miss z =
      test_ext (holds s p) (holds s (filter (λ t. not (is_single t)) p))
      (λ h. let w = holds_out s p h in
      holds_in s (filter (λ t. not (is_single t)) p) w.0 (keep_in (λ t. not (is_single t)) p w.0 w.1 (other w.0 w.1 w.2 (split (is_single w.0)))) w.2)
      (λ h. let w = holds_out s (filter (λ t. not (is_single t)) p) h in
      holds_in s p w.0 (keep_out (λ t. not (is_single t)) p w.0 w.1).0 w.2)
    where
      other : (t : ℕ) → In t p → T (subset t s) → T (is_single t) ⊎ T (not (is_single t)) → T (not (is_single t))
      other t m k (inr n) = n
      other t m k (inl one) =
          let part = shared-greatest t s (singles p) k (singles_in p t m one) in
          absurd (one_not_empty t (is_single-one t one) (subset-empty t (subst (λ (x : ℕ). T (subset t x)) z part)))

-- ---- the names that do alone

module _ (limit s : ℕ) where
  -- what is there from the start stays
  gather_base : (t d : ℕ) (p : List ℕ) → gather (set_union t d) limit s p ≡ set_union t (gather d limit s p)
  unfolding gather
  gather_base t d [] = refl
  gather_base t d (v ∷ p) =
      let rest = gather_base t d p in
      let x = gather d limit s p in
      cond_ind (λ y. y ≡ set_union t (cond (leb (ones (set_union s v)) limit) (set_union (set_union s v) x) x)) (leb (ones (set_union s v)) limit)
      (set_union (set_union s v) (gather (set_union t d) limit s p)) (gather (set_union t d) limit s p)
      (λ k. rw (T_true (leb (ones (set_union s v)) limit) k, rest) (union_left_comm (set_union s v) t x))
      (λ k. rw (T_false (leb (ones (set_union s v)) limit) k) rest)

  -- and s is there
  gather-above : (d : ℕ) (p : List ℕ) → T (subset s d) → T (subset s (gather d limit s p))
  unfolding gather
  gather-above d [] h = h
  gather-above d (v ∷ p) h =
      let rest = gather-above d p h in
      let x = gather d limit s p in
      cond_ind (λ y. T (subset s y)) (leb (ones (set_union s v)) limit) (set_union (set_union s v) x) x
      (λ _. subset_trans s x (set_union (set_union s v) x) rest (union_right (set_union s v) x)) (λ _. rest)

  module _ (last : ones s + 1 ≡ limit) where
    parted_next : (t : ℕ) (p : List ℕ) → alone limit s p ≡ gather (set_union s (singles p)) limit s (several p)
        → alone limit s (t ∷ p) ≡ gather (set_union s (singles (t ∷ p))) limit s (several (t ∷ p))
    unfolding gather singles several
    parted_next t p rest = go (split (is_single t))
      where
        m : ℕ
        m = singles p

        q : List ℕ
        q = filter (λ v. not (is_single v)) p

        x : ℕ
        x = gather (set_union s m) limit s q

        fits : T (is_single t) → leb (ones (set_union s t)) limit ≡ true
        fits one = le-leb (ones (set_union s t)) limit (omega (arith, ones-union s t, is_single-one t one))

        joined : set_union (set_union s t) x ≡ gather (set_union s (set_union t m)) limit s q
        joined =
            let in-x = gather-above (set_union s m) q (union_left s m) in
            let dropped : set_union (set_union s t) x ≡ set_union t x =
            digits_ext (set_union (set_union s t) x) (set_union t x) (λ n.
            omega (arith, digit-union (set_union s t) x n, digit-union s t n, digit-union t x n, subset_out s x in-x n)) in
            dropped ∙ sym (gather_base t (set_union s m) q) ∙ ap (λ (d : ℕ). gather d limit s q) (union_left_comm t s m)

        go : T (is_single t) ⊎ T (not (is_single t))
            → gather s limit s (t ∷ p) ≡ gather (set_union s (cond (is_single t) (set_union t m) m)) limit s (filter (λ v. not (is_single v)) (t ∷ p))
        go (inl one) = rw (T_true (is_single t) one, fits one, rest) joined
        go (inr n) = rw (T_false (is_single t) n, rest) refl

    pub gather-parted : (p : List ℕ) → alone limit s p ≡ gather (set_union s (singles p)) limit s (several p)
    unfolding gather singles several
    gather-parted [] = sym (union-none s)
    gather-parted (t ∷ p) = parted_next t p (gather-parted p)

-- ---- a row

module _ (r : Row) (s : ℕ) (w : PartedRow r) (x : ℕ) (e : x ≡ shared s r.singles) where
  pub row_hit : 0 < x → holds s (terms_of r) ≡ true
  row_hit h = holds_hit (terms_of r) s (omega (arith, e, ap (λ (m : ℕ). shared s m) w.one))

  module _ (h : x ≤ 0) where
    missed : shared s (singles (terms_of r)) ≡ 0
    missed = omega (arith, e, ap (λ (m : ℕ). shared s m) w.one)

    pub row_miss : holds s (rests_of r) ≡ holds s (terms_of r)
    row_miss = ap (holds s) w.more ∙ sym (holds_miss (terms_of r) s missed)

    row-gather : gather (set_union s r.singles) (ones s + 1) s (rests_of r) ≡ alone (ones s + 1) s (terms_of r)
    row-gather =
        ap (λ (m : ℕ). gather (set_union s m) (ones s + 1) s (rests_of r)) w.one
        ∙ ap (gather (set_union s (singles (terms_of r))) (ones s + 1) s) w.more ∙ sym (gather-parted (ones s + 1) s refl (terms_of r))

    pub row-narrow : (names v : ℕ) → v ≡ cond (holds s (rests_of r)) names (shared names (gather (set_union s r.singles) (ones s + 1) s (rests_of r)))
        → v ≡ cond (holds s (terms_of r)) names (shared names (alone (ones s + 1) s (terms_of r)))
    row-narrow names v e = rw (row_miss, row-gather) at e
