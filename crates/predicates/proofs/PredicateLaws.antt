-- The laws of predicates, by the sets that make them true: `implies` is implication, sums are disjunction, the normal form means the same,
-- is in normal form and is the only one, and what striking a name and adding the sender mean to a set without that name.
-- Above this file nothing needs the definition of `normal`. Assumes nothing.
use mathlib.Core.Path.{◌≡◌, refl, sym, ap, ap₂, subst, ◌∙◌}
use mathlib.Core.Logic.{◌⊎◌, inl, inr, ⊎_elim}
use mathlib.Core.Bool.{Bool, true, false, ◌&&◌, ◌||◌, not, or_assoc}
use mathlib.Core.List.{List, [], ◌∷◌, ◌++◌, append_assoc, append-nil}
use Prim.Native.Nat.{ℕ, ◌^◌, ◌≤◌, ◌<◌, min}
use native.Mathlib.Omega.{arith}
use lib.Dec.{T, T_not, not_T, eqb, eqb→eq, leb, leb→le, nleb→lt, ltb, ltb→lt, lt→ltb}
use lib.Count.{ones}
use borrow.Author.Tests.{ne_eqb}
use lib.ListN.{length, get_or}
use Rattle.names.specs.Sets.{subset, has}
use Rattle.names.proofs.SetLaws.{subset_refl, subset_trans, subset_antisym, subset_le, empty-subset, ones_mono, test_ext}
use Rattle.std.specs.List.{list_any, list_all}
use Rattle.predicates.specs.Lists.{In}
use Rattle.predicates.specs.Predicates.{holds, implies, degree, is_true, struck, precedes, is_normal, insert_rising, rising, minimal, normal, formed}
use Rattle.predicates.proofs.ListLaws.{both, both_l, both_r, or_l, or_r, or_cases, or_swap, cond_ind, in_cases, any_in, any_out, all_in, all_out, keep_out}

-- ---- holds

pub holds_in : (s : ℕ) (p : List ℕ) (t : ℕ) → In t p → T (subset t s) → T (holds s p)
unfolding holds
holds_in s p t m h = any_in (λ u. subset u s) p t m h

-- a term that s contains
pub holds_out : (s : ℕ) (p : List ℕ) → T (holds s p) → (t : ℕ) × In t p × T (subset t s)
unfolding holds
holds_out s p h = any_out (λ t. subset t s) p h

pub holds_mono : (s u : ℕ) (p : List ℕ) → T (subset s u) → T (holds s p) → T (holds u p)
holds_mono s u p k h = let r = holds_out s p h in holds_in u p r.0 r.1 (subset_trans r.0 s u r.2 k)

-- a predicate makes each of its own terms true
pub holds-own : (t : ℕ) (p : List ℕ) → In t p → T (holds t p)
holds-own t p m = holds_in t p t m (subset_refl t)

-- a sum is true where one of the two is
pub holds-sum : (s : ℕ) (p q : List ℕ) → holds s (p ++ q) ≡ holds s p || holds s q
unfolding holds
holds-sum s [] q = refl
holds-sum s (t ∷ p) q = ap (λ (b : Bool). subset t s || b) (holds-sum s p q) ∙ sym (or_assoc (subset t s) (holds s p) (holds s q))

pub true_holds : (s : ℕ) (p : List ℕ) → T (is_true p) → T (holds s p)
unfolding is_true
true_holds s p h =
    let r = any_out (λ t. eqb t 0) p h in
    holds_in s p r.0 r.1 (subst (λ (t : ℕ). T (subset t s)) (sym (eqb→eq r.0 0 r.2)) (empty-subset s))

-- ---- implies is implication over all sets

pub implies_out : (p q : List ℕ) → T (implies p q) → (s : ℕ) → T (holds s p) → T (holds s q)
unfolding implies
implies_out p q i s h =
    let r = holds_out s p h in holds_mono r.0 s q r.2 (all_out (λ t. holds t q) p i r.0 r.1)

pub implies_in : (p q : List ℕ) → ((s : ℕ) → T (holds s p) → T (holds s q)) → T (implies p q)
unfolding implies
implies_in p q f = all_in (λ t. holds t q) p (λ t m. f t (holds-own t p m))

pub implies_refl : (p : List ℕ) → T (implies p p)
implies_refl p = implies_in p p (λ s h. h)

pub implies_trans : (p q r : List ℕ) → T (implies p q) → T (implies q r) → T (implies p r)
implies_trans p q r h k = implies_in p r (λ s a. implies_out q r k s (implies_out p q h s a))

-- ---- the degree is the least count of a set that makes the predicate true

pub degree-least : (s : ℕ) (p : List ℕ) → T (holds s p) → degree p ≤ ones s
unfolding holds degree
degree-least s [] h = absurd h
degree-least s (t ∷ p) h =
    ⊎_elim (λ k. omega (arith, ones_mono t s k)) (λ k. omega (arith, degree-least s p k)) (or_cases (subset t s) (holds s p) h)

pub degree-some : (p : List ℕ) → degree p < 30 → (t : ℕ) × In t p × (ones t ≡ degree p)
unfolding degree
degree-some [] h = absurd (omega arith)
degree-some (t ∷ p) h = go (leb (ones t) (degree p)) refl (λ k. degree-some p k)
  where
    go : (b : Bool) → leb (ones t) (degree p) ≡ b → (degree p < 30 → (u : ℕ) × In u p × (ones u ≡ degree p))
        → (u : ℕ) × In u (t ∷ p) × (ones u ≡ min (ones t) (degree p))
    go true e rest = let l = leb→le (ones t) (degree p) (subst (λ (b : Bool). T b) (sym e) tt) in (t, inl refl, omega arith)
    go false e rest =
        let l = nleb→lt (ones t) (degree p) (subst (λ (b : Bool). T (not b)) (sym e) tt) in
        let r = rest (omega arith) in (r.0, inr r.1, omega (arith, r.2))

-- ---- normal form: the order

-- a test passes for some term after sorting where it did before
any-insert : (f : ℕ → Bool) (t : ℕ) (p : List ℕ) → list_any f (insert_rising t p) ≡ f t || list_any f p
unfolding insert_rising
any-insert f t [] = refl
any-insert f t (u ∷ p) =
    let rest = any-insert f t p in
    cond_ind (λ q. list_any f q ≡ f t || list_any f (u ∷ p)) (leb t u) (t ∷ u ∷ p) (u ∷ insert_rising t p) (λ _. refl)
    (λ _. ap (λ (b : Bool). f u || b) rest ∙ or_swap (f u) (f t) (list_any f p))

pub any-rising : (f : ℕ → Bool) (p : List ℕ) → list_any f (rising p) ≡ list_any f p
unfolding rising
any-rising f [] = refl
any-rising f (t ∷ p) = any-insert f t (rising p) ∙ ap (λ (b : Bool). f t || b) (any-rising f p)

holds-rising : (s : ℕ) (p : List ℕ) → holds s (rising p) ≡ holds s p
unfolding holds
holds-rising s p = any-rising (λ t. subset t s) p

insert_out : (t : ℕ) (p : List ℕ) (a : ℕ) → In a (insert_rising t p) → (a ≡ t) ⊎ In a p
unfolding insert_rising
insert_out t [] a = λ h. h
insert_out t (u ∷ p) a =
    let rest = insert_out t p a in
    cond_ind (λ m. In a m → (a ≡ t) ⊎ In a (u ∷ p)) (leb t u) (t ∷ u ∷ p) (u ∷ insert_rising t p) (λ _ h. h) (λ _ h. go rest h)
  where
    up : (a ≡ t) ⊎ In a p → (a ≡ t) ⊎ In a (u ∷ p)
    up (inl e) = inl e
    up (inr m) = inr (inr m)

    go : (In a (insert_rising t p) → (a ≡ t) ⊎ In a p) → In a (u ∷ insert_rising t p) → (a ≡ t) ⊎ In a (u ∷ p)
    go rest (inl e) = inr (inl e)
    go rest (inr m) = up (rest m)

rising_out : (p : List ℕ) (a : ℕ) → In a (rising p) → In a p
unfolding rising
rising_out [] a h = h
rising_out (t ∷ p) a h = ⊎_elim (λ e. inl e) (λ m. inr (rising_out p a m)) (insert_out t (rising p) a h)

-- each mask is at most the later ones
Rising : List ℕ → Type 0
Rising [] = Unit {0}
Rising (t ∷ p) = ((u : ℕ) → In u p → t ≤ u) × Rising p

insert_rising_lem : (t : ℕ) (p : List ℕ) → Rising p → Rising (insert_rising t p)
unfolding insert_rising Rising
insert_rising_lem t [] r = ((λ u m. absurd m), tt)
insert_rising_lem t (u ∷ p) r =
    let rest = insert_rising_lem t p r.1 in
    cond_ind (λ q. Rising q) (leb t u) (t ∷ u ∷ p) (u ∷ insert_rising t p)
    (λ l. ((λ v m. low (leb→le t u l) v m), r))
    (λ l. ((λ v m. ⊎_elim (λ e. omega (arith, nleb→lt t u l)) (λ k. r.0 v k) (insert_out t p v m)), rest))
  where
    low : t ≤ u → (v : ℕ) → In v (u ∷ p) → t ≤ v
    low l v (inl e) = omega arith
    low l v (inr m) = omega (arith, r.0 v m)

rising-rising : (p : List ℕ) → Rising (rising p)
unfolding rising Rising
rising-rising [] = tt
rising-rising (t ∷ p) = insert_rising_lem t (rising p) (rising-rising p)

-- ---- normal form: striking out

-- a term that contains a kept one adds nothing
absorbed : (s t : ℕ) (kept p : List ℕ) → T (holds t kept) → holds s (kept ++ p) ≡ holds s (kept ++ (t ∷ p))
unfolding holds
absorbed s t kept p h =
    holds-sum s kept p ∙ go (holds s kept) refl ∙ sym (holds-sum s kept (t ∷ p))
  where
    go : (b : Bool) → holds s kept ≡ b → holds s kept || holds s p ≡ holds s kept || (subset t s || holds s p)
    go true e = rw e
    go false e =
        test_ext (holds s kept || holds s p) (holds s kept || (subset t s || holds s p))
        (λ k. ⊎_elim (λ a. or_l (holds s kept) _ a) (λ a. or_r (holds s kept) _ (or_r (subset t s) _ a)) (or_cases (holds s kept) (holds s p) k))
        (λ k. ⊎_elim (λ a. or_l (holds s kept) _ a)
        (λ a. ⊎_elim (λ i. or_l (holds s kept) _ (holds_mono t s kept i h)) (λ j. or_r (holds s kept) _ j) (or_cases (subset t s) (holds s p) a))
        (or_cases (holds s kept) _ k))

holds-minimal : (s : ℕ) (kept p : List ℕ) → holds s (kept ++ minimal kept p) ≡ holds s (kept ++ p)
unfolding minimal
holds-minimal s kept [] = refl
holds-minimal s kept (t ∷ p) =
    let struck' = holds-minimal s kept p in
    let stays = holds-minimal s (kept ++ (t ∷ [])) p in
    cond_ind (λ q. holds s (kept ++ q) ≡ holds s (kept ++ (t ∷ p))) (holds t kept) (minimal kept p) (t ∷ minimal (kept ++ (t ∷ [])) p)
    (λ h. struck' ∙ absorbed s t kept p h)
    (λ _. rw (append_assoc kept (t ∷ []) (minimal (kept ++ (t ∷ [])) p), append_assoc kept (t ∷ []) p) at stays)

minimal_out : (kept p : List ℕ) (a : ℕ) → In a (minimal kept p) → In a p
unfolding minimal
minimal_out kept [] a = λ h. h
minimal_out kept (t ∷ p) a =
    let struck' = minimal_out kept p a in
    let stays = minimal_out (kept ++ (t ∷ [])) p a in
    cond_ind (λ q. In a q → In a (t ∷ p)) (holds t kept) (minimal kept p) (t ∷ minimal (kept ++ (t ∷ [])) p)
    (λ _ h. inr (struck' h)) (λ _ h. go stays h)
  where
    go : (In a (minimal (kept ++ (t ∷ [])) p) → In a p) → In a (t ∷ minimal (kept ++ (t ∷ [])) p) → In a (t ∷ p)
    go stays (inl e) = inl e
    go stays (inr h) = inr (stays h)

-- ---- normal form: what the test says

normal-head : (t : ℕ) (p : List ℕ) → T (is_normal (t ∷ p)) → (u : ℕ) → In u p → T (precedes t u)
unfolding is_normal
normal-head t p h u m = all_out (λ v. precedes t v) p (both_l (list_all (λ v. precedes t v) p) (is_normal p) h) u m

pub normal_tail : (t : ℕ) (p : List ℕ) → T (is_normal (t ∷ p)) → T (is_normal p)
unfolding is_normal
normal_tail t p h = both_r (list_all (λ v. precedes t v) p) (is_normal p) h

normal_cons : (t : ℕ) (p : List ℕ) → ((u : ℕ) → In u p → T (precedes t u)) → T (is_normal p) → T (is_normal (t ∷ p))
unfolding is_normal
normal_cons t p f h = both (list_all (λ v. precedes t v) p) (is_normal p) (all_in (λ v. precedes t v) p f) h

-- one more term, last
normal_snoc : (p : List ℕ) (t : ℕ) → T (is_normal p) → ((u : ℕ) → In u p → T (precedes u t)) → T (is_normal (p ++ (t ∷ [])))
unfolding is_normal
normal_snoc [] t h f = tt
normal_snoc (u ∷ p) t h f =
    normal_cons u (p ++ (t ∷ [])) (λ v m. ⊎_elim (λ k. normal-head u p h v k) (λ k. last v k) (in_cases v p (t ∷ []) m))
    (normal_snoc p t (normal_tail u p h) (λ v m. f v (inr m)))
  where
    last : (v : ℕ) → In v (t ∷ []) → T (precedes u v)
    last v (inl e) = subst (λ (w : ℕ). T (precedes u w)) (sym e) (f u (inl refl))
    last v (inr m) = absurd m

minimal-normal : (kept p : List ℕ) → T (is_normal kept) → ((k u : ℕ) → In k kept → In u p → k ≤ u) → Rising p → T (is_normal (kept ++ minimal kept p))
unfolding minimal Rising
minimal-normal kept [] n f r = subst (λ (q : List ℕ). T (is_normal q)) (sym (append-nil kept)) n
minimal-normal kept (t ∷ p) n f r =
    cond_ind (λ q. T (is_normal (kept ++ q))) (holds t kept) (minimal kept p) (t ∷ minimal (kept ++ (t ∷ [])) p)
    (λ _. minimal-normal kept p n (λ k u a b. f k u a (inr b)) r.1)
    (λ h. subst (λ (q : List ℕ). T (is_normal q)) (append_assoc kept (t ∷ []) (minimal (kept ++ (t ∷ [])) p))
    (minimal-normal (kept ++ (t ∷ [])) p (normal_snoc kept t n (λ k m. next h k m)) (λ k u a b. upto k u b (in_cases k kept (t ∷ []) a)) r.1))
  where
    next : T (not (holds t kept)) → (k : ℕ) → In k kept → T (precedes k t)
    next h k m =
        let apart : T (subset k t) → ⊥ = λ i. T_not (holds t kept) h (holds_in t kept k m i) in
        let other : k ≡ t → ⊥ = λ e. apart (subst (λ (w : ℕ). T (subset k w)) e (subset_refl k)) in
        both (ltb k t) (not (subset k t)) (lt→ltb k t (omega (arith, f k t m (inl refl), other))) (not_T (subset k t) apart)

    upto : (k u : ℕ) → In u p → In k kept ⊎ In k (t ∷ []) → k ≤ u
    upto k u b (inl a) = f k u a (inr b)
    upto k u b (inr (inl e)) = omega (arith, r.0 u b)
    upto k u b (inr (inr a)) = absurd a

-- ---- the normal form means the same, is one, and has terms of the sum only

pub holds-normal : (s : ℕ) (p : List ℕ) → holds s (normal p) ≡ holds s p
unfolding normal
holds-normal s p = holds-minimal s [] (rising p) ∙ holds-rising s p

pub implies-normal : (e p : List ℕ) → implies e (normal p) ≡ implies e p
unfolding implies
implies-normal [] p = refl
implies-normal (t ∷ e) p = ap₂ (λ (a b : Bool). a && b) (holds-normal t p) (implies-normal e p)

pub normal-normal : (p : List ℕ) → T (is_normal (normal p))
unfolding normal is_normal
normal-normal p = minimal-normal [] (rising p) tt (λ k u a b. absurd a) (rising-rising p)

pub normal_out : (p : List ℕ) (t : ℕ) → In t (normal p) → In t p
unfolding normal
normal_out p t m = rising_out p t (minimal_out [] (rising p) t m)

-- ---- and is the only one

precedes_lt : (t u : ℕ) → T (precedes t u) → t < u
precedes_lt t u b = ltb→lt t u (both_l (ltb t u) (not (subset t u)) b)

-- no term of a normal form contains another
pub normal-apart : (p : List ℕ) → T (is_normal p) → (t u : ℕ) → In t p → In u p → T (subset t u) → t ≡ u
normal-apart [] n t u a b h = absurd a
normal-apart (x ∷ p) n t u (inl e) (inl f) h = e ∙ sym f
normal-apart (x ∷ p) n t u (inl e) (inr b) h =
    absurd (T_not (subset x u) (both_r (ltb x u) (not (subset x u)) (normal-head x p n u b)) (subst (λ (w : ℕ). T (subset w u)) e h))
normal-apart (x ∷ p) n t u (inr a) (inl f) h =
    let l = precedes_lt x t (normal-head x p n t a) in let g = subset_le t u h in omega arith
normal-apart (x ∷ p) n t u (inr a) (inr b) h = normal-apart p (normal_tail x p n) t u a b h

-- the term of q inside a term of p is that term
in_other : (p q : List ℕ) → T (is_normal p) → T (implies p q) → T (implies q p) → (t : ℕ) → In t p → In t q
in_other p q n h k t m =
    let r = holds_out t q (implies_out p q h t (holds-own t p m)) in
    let v = holds_out r.0 p (implies_out q p k r.0 (holds-own r.0 q r.1)) in
    let e : v.0 ≡ t = normal-apart p n v.0 t v.1 m (subset_trans v.0 r.0 t v.2 r.2) in
    let same : r.0 ≡ t = subset_antisym r.0 t r.2 (subst (λ (w : ℕ). T (subset w r.0)) e v.2) in
    subst (λ (w : ℕ). In w q) same r.1

same-terms : (p q : List ℕ) → T (is_normal p) → T (is_normal q) → ((t : ℕ) → In t p → In t q) → ((t : ℕ) → In t q → In t p) → p ≡ q
same-terms [] [] n m f g = refl
same-terms [] (u ∷ q) n m f g = absurd (g u (inl refl))
same-terms (t ∷ p) [] n m f g = absurd (f t (inl refl))
same-terms (t ∷ p) (u ∷ q) n m f g =
    ap₂ (λ x l. x ∷ l) same
    (same-terms p q (normal_tail t p n) (normal_tail u q m) (λ v a. down v a (f v (inr a))) (λ v b. up v b (g v (inr b))))
  where
    heads : (t ≡ u) ⊎ In t q → (u ≡ t) ⊎ In u p → t ≡ u
    heads (inl e) b = e
    heads (inr a) (inl e) = sym e
    heads (inr a) (inr b) = omega (arith, precedes_lt u t (normal-head u q m t a), precedes_lt t u (normal-head t p n u b))

    same : t ≡ u
    same = heads (f t (inl refl)) (g u (inl refl))

    down : (v : ℕ) → In v p → (v ≡ u) ⊎ In v q → In v q
    down v a (inl e) = let l = precedes_lt t v (normal-head t p n v a) in let c : ⊥ = omega (arith, same) in absurd c
    down v a (inr b) = b

    up : (v : ℕ) → In v q → (v ≡ t) ⊎ In v p → In v p
    up v b (inl e) = let l = precedes_lt u v (normal-head u q m v b) in let c : ⊥ = omega (arith, same) in absurd c
    up v b (inr a) = a

-- two predicates in normal form that imply each other are the same list
pub normal_unique : (p q : List ℕ) → T (is_normal p) → T (is_normal q) → T (implies p q) → T (implies q p) → p ≡ q
normal_unique p q n m h k = same-terms p q n m (in_other p q n h k) (in_other q p m k h)

-- any list in normal form with the same meaning is the normal form, whatever way the code takes to it
pub normal_only : (p q : List ℕ) → T (is_normal p) → ((s : ℕ) → holds s p ≡ holds s q) → p ≡ normal q
normal_only p q n f =
    normal_unique p (normal q) n (normal-normal q)
    (implies_in p (normal q) (λ s h. subst (λ (b : Bool). T b) (f s ∙ sym (holds-normal s q)) h))
    (implies_in (normal q) p (λ s h. subst (λ (b : Bool). T b) (holds-normal s q ∙ sym (f s)) h))

-- "the same sums have the same normal forms" (document 02, W-203): sums with the same meaning have one
pub normal-same : (p q : List ℕ) → ((s : ℕ) → holds s p ≡ holds s q) → normal p ≡ normal q
normal-same p q f = normal_only (normal p) q (normal-normal p) (λ s. holds-normal s p ∙ f s)

-- ---- striking a name, and adding the sender

pub struck_free : (n : ℕ) (p : List ℕ) (t : ℕ) → In t (struck n p) → In t p × T (not (has n t))
unfolding struck
struck_free n p t m = keep_out (λ u. not (has n u)) p t m

-- where a term of the formed predicate comes from
pub formed_out : (own sender : ℕ) (p : List ℕ) (t : ℕ) → In t (formed own sender p) → (t ≡ 2 ^ sender) ⊎ (In t p × T (not (has own t)))
unfolding formed
formed_out own sender p t m = ⊎_elim (λ e. inl e) (λ k. inr (struck_free own p t k)) (normal_out (2 ^ sender ∷ struck own p) t m)

-- ---- a normal form has terms where the sum has

pub normal-some : (p : List ℕ) → 0 < length p → 0 < length (normal p)
normal-some [] h = absurd (omega arith)
normal-some (t ∷ p) h =
    let r = holds_out t (normal (t ∷ p)) (subst (λ (b : Bool). T b) (sym (holds-normal t (t ∷ p))) (holds-own t (t ∷ p) (inl refl))) in
    filled (normal (t ∷ p)) r.0 r.1
  where
    filled : (l : List ℕ) (u : ℕ) → In u l → 0 < length l
    filled [] u m = absurd m
    filled (v ∷ l) u m = omega arith

-- ---- what a receipt forms, and predicates that are not true

pub formed-some : (own sender : ℕ) (p : List ℕ) → 0 < length (formed own sender p)
unfolding formed
formed-some own sender p = normal-some (2 ^ sender ∷ struck own p) (omega arith)

pub formed-normal : (own sender : ℕ) (p : List ℕ) → T (is_normal (formed own sender p))
unfolding formed
formed-normal own sender p = normal-normal (2 ^ sender ∷ struck own p)

-- a sum of a predicate with itself
pub sum_twice : (p : List ℕ) → T (implies (normal (p ++ p)) p)
sum_twice p =
    implies_in (normal (p ++ p)) p (λ s h.
    let k : T (holds s p || holds s p) = rw (holds-normal s (p ++ p), holds-sum s p p) at h in
    ⊎_elim (λ a. a) (λ a. a) (or_cases (holds s p) (holds s p) k))

-- a predicate that is not true has no empty term
pub not_true_full : (p : List ℕ) → T (not (is_true p)) → (t : ℕ) → In t p → 0 < t
unfolding is_true
not_true_full p n t m =
    let full : t ≡ 0 → ⊥ =
    λ e. T_not (is_true p) n (any_in (λ u. eqb u 0) p t m (subst (λ (u : ℕ). T (eqb u 0)) (sym e) tt)) in
    omega arith

-- a predicate in normal form is true where its first term is empty
pub true_first : (p : List ℕ) → T (is_normal p) → 0 < length p → is_true p ≡ eqb (get_or p 0 0) 0
unfolding is_true is_normal
true_first [] n h = absurd (omega arith)
true_first (t ∷ p) n h = go (eqb t 0) (later p (both_l (list_all (λ u. precedes t u) p) (is_normal p) n))
  where
    go : (b : Bool) → list_any (λ u. eqb u 0) p ≡ false → b || list_any (λ u. eqb u 0) p ≡ b
    go true e = refl
    go false e = e

    later : (q : List ℕ) → T (list_all (λ u. precedes t u) q) → list_any (λ u. eqb u 0) q ≡ false
    later [] a = refl
    later (u ∷ q) a =
        let first = both_l (precedes t u) (list_all (λ v. precedes t v) q) a in
        let less : t < u = ltb→lt t u (both_l (ltb t u) _ first) in
        ap (λ (b : Bool). b || list_any (λ v. eqb v 0) q) (ne_eqb u 0 (λ e. omega arith)) ∙ later q (both_r (precedes t u) (list_all (λ v. precedes t v) q) a)
