-- Laws of a violation (`specs.Steps`, document 02, W-201). The idea: the sender's name, once an entry, implies every predicate that a receipt from the
-- sender forms; so the new datum teaches nothing and is not stored, and all that is left of the receipt is that step 2 clears held data.
-- No contract cites this file. Assumes nothing.
use Prim.Native.Nat.{ℕ, ◌^◌, ◌≤◌}
use mathlib.Core.Path.{◌≡◌, refl, ap, ◌∙◌}
use mathlib.Core.Logic.{inl, inr}
use mathlib.Core.Bool.{Bool, true, not}
use mathlib.Core.List.{List, [], ◌∷◌, ◌++◌}
use native.Mathlib.Omega.{arith}
use lib.Dec.{T}
use lib.Pow.{pow-lt, pow_pos}
use Rattle.names.proofs.SetLaws.{subset_refl}
use Rattle.std.specs.List.{list_all, filter}
use Rattle.predicates.specs.Lists.{In}
use Rattle.predicates.specs.Predicates.{holds, implies, is_true, is_normal, struck, normal, formed}
use Rattle.predicates.proofs.ListLaws.{both, both_l, both_r, or_r, T_true, cond_ind, all_keep}
use Rattle.predicates.proofs.PredicateLaws.{holds_in, holds-sum, holds-normal, implies_in, implies-normal}
use Rattle.state.specs.Model.{Datum, Store, name_most}
use Rattle.state.specs.Form.{term_fits, terms_fit, datum_ok, store_ok}
use Rattle.state.specs.Layout.{entry_terms}
use Rattle.state.proofs.OkLaws.{ok_terms_in}
use Rattle.entries.specs.Entries.{explained, learn}
use Rattle.steps.specs.Steps.{learnt, unexplained, held_after, settled, received, blamed, swept, judged}
use Rattle.steps.proofs.ReceiveLaws.{single_free, term_fits_lem, learn_all, learnt_ind, explained_mono, learn-has}

-- ---- an explained datum

-- an entry that is explained is not added
learn-none : (e : List ℕ) (es : List (List ℕ)) → T (explained es e) → learn e es ≡ es
unfolding learn
learn-none e es h = rw (T_true (explained es e) h)

-- a predicate implies its sum with another
implies-sum : (p q : List ℕ) → T (implies q (normal (p ++ q)))
implies-sum p q = rw implies-normal (implies_in q (p ++ q) (λ s h. rw holds-sum (or_r (holds s p) (holds s q) h)))

-- what is explained teaches nothing
pub learnt-none : (n : Datum) (ds : List Datum) (es : List (List ℕ)) → T (explained es n.terms) → learnt n ds es ≡ es
learnt-none n ds es h =
    learnt_ind (λ fs. fs ≡ es) n ds es
    (λ d fs m c e. rw e (learn-none (normal (d.terms ++ n.terms)) es
    (explained_mono es n.terms (normal (d.terms ++ n.terms)) (implies-sum d.terms n.terms) h))) refl

-- the receipt of a datum that is explained already does step 2 alone
pub explained-settled : (n : Datum) (k : Store) → T (explained k.entries n.terms) → settled n k ≡ swept k
unfolding settled swept held_after
explained-settled n k h = rw (learnt-none n k.held k.entries h, T_true (explained k.entries n.terms) h)

-- ---- step 2 once more

keep_twice : {A : Type 0} (f : A → Bool) (l : List A) → filter f (filter f l) ≡ filter f l
keep_twice f [] = refl
keep_twice f (x ∷ l) =
    let rest = keep_twice f l in
    cond_ind (λ m. filter f m ≡ m) (f x) (x ∷ filter f l) (filter f l) (λ t. rw (T_true (f x) t, rest)) (λ _. rest)

pub swept_twice : (k : Store) → swept (swept k) ≡ swept k
unfolding swept unexplained
swept_twice k =
    ap (λ (ds : List Datum). record { held = ds; entries = k.entries }) (keep_twice (λ d. not (explained k.entries d.terms)) k.held)

-- ---- the sender's name as an entry

-- what the sender's name implies is explained
pub blamed_explains : (sender : ℕ) (k : Store) (p : List ℕ) → T (implies (2 ^ sender ∷ []) p) → T (explained (blamed sender k).entries p)
unfolding blamed
blamed_explains sender k p h =
    explained_mono (learn (2 ^ sender ∷ []) k.entries) (2 ^ sender ∷ []) p h (learn-has (2 ^ sender ∷ []) k.entries)

-- it implies all that a receipt from the sender forms
pub formed-single : (own sender : ℕ) (p : List ℕ) → T (implies (2 ^ sender ∷ []) (formed own sender p))
unfolding formed implies
formed-single own sender p =
    both (holds (2 ^ sender) (normal (2 ^ sender ∷ struck own p))) true
    (rw holds-normal (holds_in (2 ^ sender) (2 ^ sender ∷ struck own p) (2 ^ sender) (inl refl) (subset_refl (2 ^ sender)))) tt

-- ---- the receipt

module _ (sender : ℕ) (n : Datum) (k : Store) (h : T (implies (2 ^ sender ∷ []) n.terms)) where
  -- whatever its predicate, the receipt ends at step 2
  pub judged-violated : judged true sender n k ≡ swept (blamed sender k)
  unfolding judged
  judged-violated =
      cond_ind (λ j. j ≡ swept (blamed sender k)) (is_true n.terms) (swept (blamed sender k)) (settled n (blamed sender k)) (λ _. refl)
      (λ _. explained-settled n (blamed sender k) (blamed_explains sender k n.terms h))

  -- and after it such a datum changes nothing
  pub received-swept : received n (swept (blamed sender k)) ≡ swept (blamed sender k)
  unfolding received swept
  received-swept =
      let j = swept (blamed sender k) in
      cond_ind (λ i. i ≡ j) (is_true n.terms) j (settled n j) (λ _. refl)
      (λ _. explained-settled n j (blamed_explains sender k n.terms h) ∙ swept_twice (blamed sender k))

-- ---- what is left

-- a name that is not the own one is a right entry
single_fit : (own sender : ℕ) → sender ≤ name_most → (sender ≡ own → ⊥) → T (terms_fit own entry_terms (2 ^ sender ∷ []))
unfolding is_normal
single_fit own sender s f =
    ok_terms_in own entry_terms (2 ^ sender ∷ [])
    record { some = omega arith; few = omega arith; norm = tt; each = λ t m. go t m }
  where
    go : (t : ℕ) → In t (2 ^ sender ∷ []) → T (term_fits own t)
    go t (inl e) = rw e (term_fits_lem own (2 ^ sender) (pow_pos sender) (pow-lt {i = sender} {j = 29} (omega arith)) (single_free own sender f))
    go t (inr m) = absurd m

pub swept-blamed_ok : (own sender : ℕ) (k : Store) → sender ≤ name_most → (sender ≡ own → ⊥) → T (store_ok own k) → T (store_ok own (swept (blamed sender k)))
unfolding store_ok swept blamed unexplained
swept-blamed_ok own sender k s f h =
    let es = learn (2 ^ sender ∷ []) k.entries in
    both (list_all (datum_ok own) (unexplained es k.held)) (list_all (terms_fit own entry_terms) es)
    (all_keep (datum_ok own) (λ d. not (explained es d.terms)) k.held (both_l (list_all (datum_ok own) k.held) (list_all (terms_fit own entry_terms) k.entries) h))
    (learn_all (terms_fit own entry_terms) (2 ^ sender ∷ []) k.entries (single_fit own sender s f)
    (both_r (list_all (datum_ok own) k.held) (list_all (terms_fit own entry_terms) k.entries) h))
