-- Laws of receiving (`specs.Receiving`), step by step: right data and entries (`state.specs.Form`) stay right, and how many there can be.
-- The idea: rule 15 stores no empty interval. Two data with one predicate and disjoint intervals teach an entry in step 1 that implies that
-- predicate, and what is explained stays so to the end of the step; so step 2 ends the receipt before rule 15 comes.
-- No contract cites this file. Assumes nothing.
use Prim.Native.Nat.{ℕ, ◌+◌, ◌^◌, ◌≤◌, ◌<◌}
use mathlib.Core.Path.{◌≡◌, refl, ap₂}
use mathlib.Core.Logic.{◌⊎◌, inl, inr, ⊎_elim}
use mathlib.Core.Bool.{Bool, true, ◌&&◌, not, cond}
use mathlib.Core.List.{List, [], ◌∷◌, ◌++◌}
use native.Mathlib.Omega.{arith}
use lib.Dec.{T, T_not, not_T, eqb, eqb→eq, ltb, lt→ltb, nltb→le}
use lib.ListN.{length, length-append}
use lib.Pow.{pow-lt}
use Rattle.names.specs.Sets.{has, no_set}
use Rattle.names.proofs.SetLaws.{digit-single_other, has_out}
use Rattle.std.specs.List.{list_any, list_all, filter}
use Rattle.predicates.specs.Lists.{In}
use Rattle.predicates.specs.Predicates.{implies, is_true, normal, formed}
use Rattle.predicates.proofs.ListLaws.{both, both_l, both_r, neither, split, cond_ind}
use Rattle.predicates.proofs.ListLaws.{in_l, in_r, in_cases, any_in, any_out, all_out, keep_in, keep_out, all_keep, length-keep}
use Rattle.predicates.proofs.PredicateLaws.{implies_refl, implies_trans, normal-normal, normal_out, normal-some, formed_out, formed-some, formed-normal, sum_twice, not_true_full}
use Rattle.predicates.proofs.PlaceLaws.{length-normal}
use Rattle.state.specs.Model.{Datum, Store, name_most}
use Rattle.state.specs.Form.{term_fits, terms_fit, datum_ok, store_ok}
use Rattle.predicates.proofs.IndexLaws.{all_append}
use Rattle.steps.specs.Steps.{disjoint, learnt, unexplained, same, meet, met, without, betters, stored, held_after, received, settled}
use Rattle.entries.specs.Entries.{explained, learn}
use Rattle.state.proofs.OkLaws.{OkDatum, ok_datum_in, ok_datum_out, ok_terms_in, ok_terms_out}
use Rattle.state.specs.Layout.{datum_terms, entry_terms}

-- ---- the new datum

-- the sender's term is without the own name
pub single_free : (own sender : ℕ) → (sender ≡ own → ⊥) → T (not (has own (2 ^ sender)))
single_free own sender f =
    not_T (has own (2 ^ sender)) (λ h. omega (arith, has_out own (2 ^ sender) h, digit-single_other sender own f))

pub term_fits_lem : (own t : ℕ) → 0 < t → t < no_set → T (not (has own t)) → T (term_fits own t)
unfolding term_fits
term_fits_lem own t o l f =
    both (ltb 0 t) (ltb t no_set && not (has own t)) (lt→ltb 0 t o) (both (ltb t no_set) (not (has own t)) (lt→ltb t no_set l) f)

-- what is formed of terms below 2 ^ 29 fits, if it is not true
pub formed_fit : (own sender : ℕ) (p : List ℕ) → sender ≤ name_most → (sender ≡ own → ⊥) → ((t : ℕ) → In t p → t < no_set)
    → T (not (is_true (formed own sender p))) → T (terms_fit own (length (formed own sender p)) (formed own sender p))
formed_fit own sender p s f small n =
    ok_terms_in own (length (formed own sender p)) (formed own sender p)
    record {
      some = formed-some own sender p;
      few = omega arith;
      norm = formed-normal own sender p;
      each = λ t m. fits t (not_true_full (formed own sender p) n t m) (formed_out own sender p t m);
    }
  where
    fits : (t : ℕ) → 0 < t → (t ≡ 2 ^ sender) ⊎ (In t p × T (not (has own t))) → T (term_fits own t)
    fits t o (inl e) =
        term_fits_lem own t o (rw e (pow-lt {i = sender} {j = 29} (omega arith))) (rw e (single_free own sender f))
    fits t o (inr k) = term_fits_lem own t o (small t k.0) k.1

-- ---- step 1: entries

sum_fit : (own : ℕ) (p q : List ℕ) → T (terms_fit own datum_terms p) → T (terms_fit own datum_terms q) → T (terms_fit own entry_terms (normal (p ++ q)))
sum_fit own p q h k =
    let a = ok_terms_out own datum_terms p h in
    let b = ok_terms_out own datum_terms q k in
    let l = length-append p q in
    ok_terms_in own 16 (normal (p ++ q))
    record {
      some = normal-some (p ++ q) (omega arith);
      few = omega (arith, length-normal (p ++ q));
      norm = normal-normal (p ++ q);
      each = λ t m. ⊎_elim (a.each t) (b.each t) (in_cases t p q (normal_out (p ++ q) t m));
    }

pub learn_all : (f : List ℕ → Bool) (e : List ℕ) (es : List (List ℕ)) → T (f e) → T (list_all f es) → T (list_all f (learn e es))
unfolding learn
learn_all f e es t h =
    cond_ind (λ fs. T (list_all f fs)) (explained es e) es (filter (λ g. not (implies e g)) es ++ (e ∷ [])) (λ _. h)
    (λ _. all_append f (filter (λ g. not (implies e g)) es) (e ∷ []) (all_keep f (λ g. not (implies e g)) es h) (both (f e) true t tt))

length-learn : (e : List ℕ) (es : List (List ℕ)) → length (learn e es) ≤ length es + 1
unfolding learn
length-learn e es =
    let rest = filter (λ g. not (implies e g)) es in
    cond_ind (λ fs. length fs ≤ length es + 1) (explained es e) es (rest ++ (e ∷ [])) (λ _. omega arith)
    (λ _. omega (arith, length-append rest (e ∷ []), length-keep (λ g. not (implies e g)) es))

-- what each entry learnt keeps, step 1 keeps
pub learnt_ind : (P : List (List ℕ) → Type 0) (n : Datum) (ds : List Datum) (es : List (List ℕ))
    → ((d : Datum) (fs : List (List ℕ)) → In d ds → T (disjoint d n) → P fs → P (learn (normal (d.terms ++ n.terms)) fs))
    → P es → P (learnt n ds es)
unfolding learnt
learnt_ind P n [] es f h = h
learnt_ind P n (d ∷ ds) es f h =
    learnt_ind P n ds (cond (disjoint d n) (learn (normal (d.terms ++ n.terms)) es) es) (λ e fs m. f e fs (inr m))
    (cond_ind P (disjoint d n) (learn (normal (d.terms ++ n.terms)) es) es (λ c. f d es (inl refl) c h) (λ _. h))

pub learnt_fit : (own : ℕ) (n : Datum) (ds : List Datum) (es : List (List ℕ)) → T (datum_ok own n) → T (list_all (datum_ok own) ds)
    → T (list_all (terms_fit own entry_terms) es) → T (list_all (terms_fit own entry_terms) (learnt n ds es))
learnt_fit own n ds es o h k =
    learnt_ind (λ fs. T (list_all (terms_fit own entry_terms) fs)) n ds es
    (λ d fs m c. learn_all (terms_fit own entry_terms) (normal (d.terms ++ n.terms)) fs
    (sum_fit own d.terms n.terms (ok_datum_out own d (all_out (datum_ok own) ds h d m)).fit (ok_datum_out own n o).fit)) k

-- each held datum teaches at most one entry
pub length-learnt : (n : Datum) (ds : List Datum) (es : List (List ℕ)) → length (learnt n ds es) ≤ length es + length ds
unfolding learnt
length-learnt n [] es = omega arith
length-learnt n (d ∷ ds) es =
    let e = normal (d.terms ++ n.terms) in
    let one : length (cond (disjoint d n) (learn e es) es) ≤ length es + 1 =
    cond_ind (λ fs. length fs ≤ length es + 1) (disjoint d n) (learn e es) es (λ _. length-learn e es) (λ _. omega arith) in
    omega (arith, length-learnt n ds (cond (disjoint d n) (learn e es) es))

-- ---- step 1: what is explained

-- two intervals that are not disjoint
pub overlap : (d n : Datum) → T (not (disjoint d n)) → (n.left ≤ d.right) × (d.left ≤ n.right)
unfolding disjoint
overlap d n h =
    let k = neither (ltb d.right n.left) (ltb n.right d.left) h in
    (nltb→le d.right n.left k.0, nltb→le n.right d.left k.1)

-- what an explained predicate implies is explained
pub explained_mono : (es : List (List ℕ)) (p q : List ℕ) → T (implies p q) → T (explained es p) → T (explained es q)
unfolding explained
explained_mono es p q k h =
    let r = any_out (λ e. implies e p) es h in any_in (λ e. implies e q) es r.0 r.1 (implies_trans r.0 p q r.2 k)

-- an entry is explained once it is learnt
pub learn-has : (e : List ℕ) (es : List (List ℕ)) → T (explained (learn e es) e)
unfolding learn explained
learn-has e es =
    let rest = filter (λ g. not (implies e g)) es in
    cond_ind (λ fs. T (explained fs e)) (explained es e) es (rest ++ (e ∷ [])) (λ h. h)
    (λ _. any_in (λ g. implies g e) (rest ++ (e ∷ [])) e (in_r e rest (e ∷ []) (inl refl)) (implies_refl e))

-- what is explained stays so: an entry that goes is implied by the new one
pub learn-keeps : (e : List ℕ) (es : List (List ℕ)) (p : List ℕ) → T (explained es p) → T (explained (learn e es) p)
unfolding learn explained
learn-keeps e es p h =
    cond_ind (λ fs. T (explained fs p)) (explained es e) es (rest ++ (e ∷ [])) (λ _. h)
    (λ _. let r = any_out (λ f. implies f p) es h in go r.0 r.1 r.2 (split (implies e r.0)))
  where
    rest : List (List ℕ)
    rest = filter (λ g. not (implies e g)) es

    go : (f : List ℕ) → In f es → T (implies f p) → T (implies e f) ⊎ T (not (implies e f)) → T (list_any (λ g. implies g p) (rest ++ (e ∷ [])))
    go f m i (inl k) = any_in (λ g. implies g p) (rest ++ (e ∷ [])) e (in_r e rest (e ∷ []) (inl refl)) (implies_trans e f p k i)
    go f m i (inr k) = any_in (λ g. implies g p) (rest ++ (e ∷ [])) f (in_l f rest (e ∷ []) (keep_in (λ g. not (implies e g)) es f m k)) i

-- the sum with each datum that is disjoint is explained
pub learnt-has : (n : Datum) (ds : List Datum) (es : List (List ℕ)) (d : Datum) → In d ds → T (disjoint d n)
    → T (explained (learnt n ds es) (normal (d.terms ++ n.terms)))
unfolding learnt
learnt-has n [] es d m h = absurd m
learnt-has n (c ∷ ds) es d (inl e) h =
    learnt_ind (λ fs. T (explained fs sum)) n ds (cond (disjoint c n) (learn (normal (c.terms ++ n.terms)) es) es)
    (λ b fs m k. learn-keeps (normal (b.terms ++ n.terms)) fs sum)
    (cond_ind (λ fs. T (explained fs sum)) (disjoint c n) (learn (normal (c.terms ++ n.terms)) es) es
    (λ _. rw e (learn-has (normal (c.terms ++ n.terms)) es)) (λ k. absurd (T_not (disjoint c n) k (rw e at h))))
  where
    sum : List ℕ
    sum = normal (d.terms ++ n.terms)
learnt-has n (c ∷ ds) es d (inr m) h = learnt-has n ds (cond (disjoint c n) (learn (normal (c.terms ++ n.terms)) es) es) d m h

-- a held datum with n's predicate, where no entry explains that predicate, has an instant in common with n
pub unexplained_overlap : (n : Datum) (ds : List Datum) (es : List (List ℕ)) (d : Datum) → In d ds → d.terms ≡ n.terms
    → T (not (explained (learnt n ds es) n.terms)) → (n.left ≤ d.right) × (d.left ≤ n.right)
unexplained_overlap n ds es d m e h =
    overlap d n (not_T (disjoint d n) (λ c.
    T_not (explained (learnt n ds es) n.terms) h
    (explained_mono (learnt n ds es) (normal (n.terms ++ n.terms)) n.terms (sum_twice n.terms)
    (rw e at (learnt-has n ds es d m c)))))

-- ---- steps 2 and 3

pub same_out : (p q : List ℕ) → T (same p q) → p ≡ q
unfolding same
same_out [] [] h = refl
same_out [] (u ∷ q) h = absurd h
same_out (t ∷ p) [] h = absurd h
same_out (t ∷ p) (u ∷ q) h =
    ap₂ (λ x l. x ∷ l) (eqb→eq t u (both_l (eqb t u) (same p q) h)) (same_out p q (both_r (eqb t u) (same p q) h))

without_all : (f : Datum → Bool) (p : List ℕ) (ds : List Datum) → T (list_all f ds) → T (list_all f (without p ds))
unfolding without
without_all f p [] h = tt
without_all f p (d ∷ ds) h =
    let rest = without_all f p ds (both_r (f d) (list_all f ds) h) in
    cond_ind (λ cs. T (list_all f cs)) (same d.terms p) ds (d ∷ without p ds)
    (λ _. both_r (f d) (list_all f ds) h) (λ _. both (f d) (list_all f (without p ds)) (both_l (f d) (list_all f ds) h) rest)

-- n cut to a datum with its predicate is right, if the two have an instant in common
met_ok : (own : ℕ) (n : Datum) (ds : List Datum) → OkDatum own n → T (list_all (datum_ok own) ds)
    → ((d : Datum) → In d ds → d.terms ≡ n.terms → (n.left ≤ d.right) × (d.left ≤ n.right)) → OkDatum own (met n ds)
unfolding met meet
met_ok own n [] o h f = o
met_ok own n (d ∷ ds) o h f =
    let rest = met_ok own n ds o (both_r (datum_ok own d) (list_all (datum_ok own) ds) h) (λ e m. f e (inr m)) in
    cond_ind (λ c. OkDatum own c) (same d.terms n.terms) (meet d n) (met n ds)
    (λ k.
    let c = ok_datum_out own d (both_l (datum_ok own d) (list_all (datum_ok own) ds) h) in
    let v = f d (inl refl) (same_out d.terms n.terms k) in
    record { ends = omega arith; below = omega arith; fit = o.fit })
    (λ _. rest)

-- ---- step 4

stored-all : (f : Datum → Bool) (n : Datum) (ds : List Datum) → T (f n) → T (list_all f ds) → T (list_all f (stored n ds))
unfolding stored
stored-all f n ds t h =
    let rest = filter (λ d. not (betters n d)) ds in
    cond_ind (λ cs. T (list_all f cs)) (list_any (λ d. betters d n) ds) ds (rest ++ (n ∷ [])) (λ _. h)
    (λ _. all_append f rest (n ∷ []) (all_keep f (λ d. not (betters n d)) ds h) (both (f n) true t tt))

-- ---- the receipt

-- steps 2 to 4 leave right data
pub held_after_ok : (own : ℕ) (n : Datum) (ds : List Datum) (es : List (List ℕ)) → T (datum_ok own n) → T (list_all (datum_ok own) ds)
    → T (list_all (datum_ok own) (held_after n ds (learnt n ds es)))
unfolding held_after unexplained
held_after_ok own n ds es o h =
    cond_ind (λ cs. T (list_all (datum_ok own) cs)) (explained fs n.terms) us (stored (met n us) (without n.terms us)) (λ _. right)
    (λ k. stored-all (datum_ok own) (met n us) (without n.terms us)
    (ok_datum_in own (met n us) (met_ok own n us (ok_datum_out own n o) right (λ d m e. unexplained_overlap n ds es d (old d m) e k)))
    (without_all (datum_ok own) n.terms us right))
  where
    fs : List (List ℕ)
    fs = learnt n ds es

    us : List Datum
    us = filter (λ d. not (explained fs d.terms)) ds

    right : T (list_all (datum_ok own) us)
    right = all_keep (datum_ok own) (λ d. not (explained fs d.terms)) ds h

    old : (d : Datum) → In d us → In d ds
    old d m = (keep_out (λ e. not (explained fs e.terms)) ds d m).0

-- a right store stays right: rule 15 stores no empty interval
settled_ok : (own : ℕ) (n : Datum) (k : Store) → T (store_ok own k) → T (datum_ok own n) → T (store_ok own (settled n k))
unfolding store_ok settled
settled_ok own n k h t =
    let ds = k.held in
    let es = k.entries in
    let held : T (list_all (datum_ok own) ds) = both_l (list_all (datum_ok own) ds) (list_all (terms_fit own entry_terms) es) h in
    let entries : T (list_all (terms_fit own entry_terms) es) = both_r (list_all (datum_ok own) ds) (list_all (terms_fit own entry_terms) es) h in
    both (list_all (datum_ok own) (settled n k).held) (list_all (terms_fit own entry_terms) (settled n k).entries)
    (held_after_ok own n ds es t held) (learnt_fit own n ds es t held entries)

-- a new datum that is true is not looked at
pub received_ok : (own : ℕ) (n : Datum) (k : Store) → T (store_ok own k) → (T (not (is_true n.terms)) → T (datum_ok own n))
    → T (store_ok own (received n k))
unfolding received
received_ok own n k h f =
    cond_ind (λ j. T (store_ok own j)) (is_true n.terms) k (settled n k) (λ _. h) (λ t. settled_ok own n k h (f t))
