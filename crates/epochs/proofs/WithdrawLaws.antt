-- The laws of a predicate in which names count as failed: a set makes it true exactly if it does so together with those names
-- (`withdraw-holds`). The rest is what is left of its terms. Assumes nothing.
use Prim.Native.Nat.{ℕ, zero, suc, ◌+◌, ◌-◌, ◌≤◌, ◌<◌}
use mathlib.Core.Path.{◌≡◌, refl, sym, ap, ap₂, subst, ◌∙◌}
use mathlib.Core.Bool.{Bool, true, false, ◌||◌}
use mathlib.Core.List.{List, [], ◌∷◌, ◌++◌, map, append-nil}
use native.Mathlib.Omega.{arith}
use native.Mathlib.Nat.{suc-add}
use lib.Dec.{T, eqb, eqb→eq}
use lib.ListN.{length, get_or, set, take, drop, replicate, length-map}
use lib.Seq.{length-take-le, take_at, drop_at}
use Rattle.names.specs.Sets.{set_union, minus, subset}
use Rattle.names.specs.code.Parts.{shared}
use Rattle.names.proofs.SetLaws.{union_left, union-none, subset-empty, empty-subset}
use Rattle.names.proofs.PartLaws.{minus_in, minus-none}
use Rattle.std.specs.List.{list_all}
use Rattle.predicates.specs.Lists.{In, padded}
use Rattle.predicates.specs.Predicates.{holds, implies, is_true, is_normal, normal}
use Rattle.predicates.proofs.ListLaws.{both_l, both_r, true_T, T_true, map_out, any_in}
use Rattle.predicates.proofs.PredicateLaws.{holds_out, true_holds, holds-normal, holds_mono, normal-normal, normal_out, normal_only, normal-some, implies_out, implies_in}
use Rattle.predicates.proofs.PlaceLaws.{length-normal}
use Rattle.epochs.specs.Epochs.{withdraw}

-- without the names of r, term by term
map-holds : (s r : ℕ) (p : List ℕ) → holds s (map (λ t. minus t r) p) ≡ holds (set_union s r) p
unfolding holds
map-holds s r [] = refl
map-holds s r (t ∷ p) = ap₂ ◌||◌ (minus_in t r s) (map-holds s r p)

-- a set makes it true exactly if it does so together with the names that count as failed
pub withdraw-holds : (s r : ℕ) (p : List ℕ) → holds s (withdraw r p) ≡ holds (set_union s r) p
unfolding withdraw
withdraw-holds s r p = holds-normal s (map (λ t. minus t r) p) ∙ map-holds s r p

pub withdraw-normal : (r : ℕ) (p : List ℕ) → T (is_normal (withdraw r p))
unfolding withdraw
withdraw-normal r p = normal-normal (map (λ t. minus t r) p)

pub withdraw-length : (r : ℕ) (p : List ℕ) → length (withdraw r p) ≤ length p
unfolding withdraw
withdraw-length r p = omega (arith, length-normal (map (λ t. minus t r) p), length-map p (λ t. minus t r))

pub withdraw-some : (r : ℕ) (p : List ℕ) → 0 < length p → 0 < length (withdraw r p)
unfolding withdraw
withdraw-some r p h = normal-some (map (λ t. minus t r) p) (omega (arith, length-map p (λ t. minus t r)))

-- a term that is left is one of p without the names of r
pub withdraw_out : (r : ℕ) (p : List ℕ) (t : ℕ) → In t (withdraw r p) → (u : ℕ) × In u p × (t ≡ minus u r)
unfolding withdraw
withdraw_out r p t h = map_out (λ t. minus t r) p t (normal_out (map (λ t. minus t r) p) t h)

-- a predicate that names none of r stays
map-none : (r : ℕ) (p : List ℕ) → T (list_all (λ t. eqb (shared t r) 0) p) → map (λ t. minus t r) p ≡ p
map-none r [] h = refl
map-none r (t ∷ p) h =
    rw (minus-none t r (eqb→eq (shared t r) 0 (both_l (eqb (shared t r) 0) _ h)), map-none r p (both_r (eqb (shared t r) 0) _ h))

pub withdraw-none : (r : ℕ) (p : List ℕ) → T (is_normal p) → T (list_all (λ t. eqb (shared t r) 0) p) → withdraw r p ≡ p
unfolding withdraw
withdraw-none r p n h = ap normal (map-none r p h) ∙ sym (normal_only p p n (λ s. refl))

-- no name counts as failed
pub withdraw_zero : (p : List ℕ) → T (is_normal p) → withdraw 0 p ≡ p
unfolding withdraw
withdraw_zero p n = sym (normal_only p (map (λ t. minus t 0) p) n (λ s. sym (map-holds s 0 p ∙ ap (λ (u : ℕ). holds u p) (union-none s))))

-- what a predicate alone implies, it implies with further names counted as failed
pub withdraw-implies : (r : ℕ) (e p : List ℕ) → T (implies e p) → T (implies e (withdraw r p))
withdraw-implies r e p h =
    implies_in e (withdraw r p) (λ s k.
    subst (λ (b : Bool). T b) (sym (withdraw-holds s r p)) (holds_mono s (set_union s r) p (union_left s r) (implies_out e p h s k)))

-- what is true stays true
pub withdraw_true : (r : ℕ) (p : List ℕ) → T (is_true p) → T (is_true (withdraw r p))
unfolding is_true
withdraw_true r p h =
    let k = holds_out 0 (withdraw r p) (subst (λ (b : Bool). T b) (sym (withdraw-holds 0 r p)) (true_holds (set_union 0 r) p h)) in
    any_in (λ t. eqb t 0) (withdraw r p) k.0 k.1 (subst (λ (t : ℕ). T (eqb t 0)) (sym (subset-empty k.0 k.2)) tt)

-- ---- in place

pub withdraw_stays : (r : ℕ) (l : List ℕ) → T (is_normal l) → list_all (λ t. eqb (shared t r) 0) l ≡ true
    → (length l ≡ length (withdraw r l)) × (l ≡ padded (length l) (withdraw r l))
unfolding padded
withdraw_stays r l k e =
    let w = withdraw-none r l k (true_T _ e) in
    let z : length l - length l ≡ 0 = omega arith in
    (ap length (sym w), rw (w, z) (sym (append-nil l)))

-- what a normal form of the first n terms, without the names of r, leaves; what is behind n stays
pub withdraw_calls : (n r : ℕ) (l u : List ℕ) → n ≤ length l → u ≡ map (λ t. minus t r) (take n l) ++ drop n l
    → (normal (take n u) ≡ withdraw r (take n l)) × (drop n u ≡ drop n l)
unfolding withdraw
withdraw_calls n r l u h e =
    let k : length (map (λ t. minus t r) (take n l)) ≡ n = length-map (take n l) (λ t. minus t r) ∙ length-take-le n l h in (
      ap (λ (v : List ℕ). normal (take n v)) e ∙ ap normal (take_at (map (λ t. minus t r) (take n l)) (drop n l) n k),
      ap (λ (v : List ℕ). drop n v) e ∙ drop_at (map (λ t. minus t r) (take n l)) (drop n l) n k,
    )

-- a predicate with the empty term has it alone as its normal form
normal_true : (q : List ℕ) → holds 0 q ≡ true → normal q ≡ 0 ∷ []
unfolding is_normal holds
normal_true q e =
    sym (normal_only (0 ∷ []) q tt (λ s.
    ap (λ (b : Bool). b || false) (T_true (subset 0 s) (empty-subset s))
    ∙ sym (T_true (holds s q) (holds_mono 0 s q (empty-subset s) (true_T (holds 0 q) e)))))

-- zeros are its normal form; u are the terms without the names of r
pub withdraw_gone : (r : ℕ) (l u v : List ℕ) → u ≡ map (λ t. minus t r) l → holds 0 u ≡ true → v ≡ replicate (length u) 0
    → ((1 ≡ length (withdraw r l)) × (1 ≤ length l)) × (v ≡ padded (length l) (withdraw r l))
unfolding padded withdraw
withdraw_gone r l u v e g f =
    let gone : withdraw r l ≡ 0 ∷ [] = ap normal (sym e) ∙ normal_true u g in
    let one : length (withdraw r l) ≡ 1 = ap length gone in
    let some : 1 ≤ length l = omega (arith, withdraw-length r l) in
    let long : length u ≡ suc (length l - 1) = ap length e ∙ length-map l (λ t. minus t r) ∙ omega arith in
    ((sym one, some), f ∙ rw (gone, long))

-- a term more is taken out
pub taken-turn : (i r : ℕ) (l s : List ℕ) → i < length l → s ≡ map (λ t. minus t r) (take i l) ++ drop i l
    → set s i (minus (get_or s i 0) r) ≡ map (λ t. minus t r) (take (i + 1) l) ++ drop (i + 1) l
taken-turn i r l s h e =
    ap (λ (v : List ℕ). set v i (minus (get_or v i 0) r)) e
    ∙ go i l h
  where
    go : (i : ℕ) (l : List ℕ) → i < length l
        → set (map (λ t. minus t r) (take i l) ++ drop i l) i (minus (get_or (map (λ t. minus t r) (take i l) ++ drop i l) i 0) r)
        ≡ map (λ t. minus t r) (take (i + 1) l) ++ drop (i + 1) l
    go i [] k = absurd (omega (arith, k))
    go zero (x ∷ l) k = refl
    go (suc i) (x ∷ l) k = rw (suc-add i 1) (ap {B = List ℕ} (λ v. minus x r ∷ v) (go i l (omega (arith, k))))
