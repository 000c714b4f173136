-- Laws of names withdrawn (`specs.Steps`, document 02, W-204): what is held and known stays right, and where nobody is withdrawn all stays.
-- No contract cites this file. Assumes nothing.
use Prim.Native.Nat.{ℕ, ◌≤◌, ◌<◌}
use mathlib.Core.Path.{◌≡◌, refl, sym, ap, ap₂, subst}
use mathlib.Core.Logic.{inl, inr}
use mathlib.Core.Bool.{Bool, not}
use mathlib.Core.List.{List, [], ◌∷◌, map}
use native.Mathlib.Omega.{arith}
use lib.Bits.{bit_and, and_zero_r}
use lib.Dec.{T, T_not, not_T, eqb, eqb→eq, ltb, ltb→lt, lt→ltb}
use lib.ListN.{length, length-map}
use Rattle.names.specs.Sets.{no_set, has, minus}
use Rattle.names.specs.code.Parts.{shared}
use Rattle.names.proofs.SetLaws.{subset_le, has_mono}
use Rattle.names.proofs.PartLaws.{minus-subset}
use Rattle.std.specs.List.{list_any, list_all, filter}
use Rattle.predicates.specs.Lists.{In}
use Rattle.predicates.specs.Predicates.{is_true}
use Rattle.predicates.proofs.ListLaws.{both, both_l, both_r, T_true, any_out, all_in, all_out, keep_out, map_out, length-keep}
use Rattle.predicates.proofs.PredicateLaws.{not_true_full}
use Rattle.epochs.specs.Epochs.{withdraw}
use Rattle.epochs.proofs.WithdrawLaws.{withdraw-normal, withdraw-length, withdraw-some, withdraw_out, withdraw-none}
use Rattle.state.specs.Model.{Datum, datum, Store}
use Rattle.state.specs.Form.{term_fits, terms_fit, datum_ok, store_ok}
use Rattle.state.specs.Layout.{datum_terms, entry_terms}
use Rattle.state.proofs.OkLaws.{ok_terms_out, ok_terms_in, ok_datum_out, ok_datum_in}
use Rattle.entries.specs.Entries.{withdrawn_entries}
use Rattle.steps.specs.Withdrawn.{withdrawn_datum, withdrawn_data, withdrawn}

-- ---- what is left is right

-- no more terms than before
fewer : (own width r : ℕ) (p : List ℕ) → T (terms_fit own width p) → length (withdraw r p) ≤ width
fewer own width r p h = omega (arith, withdraw-length r p, (ok_terms_out own width p h).few)

-- a term without some of its names
term_less : (own u r : ℕ) → T (term_fits own u) → 0 < minus u r → T (term_fits own (minus u r))
unfolding term_fits
term_less own u r h some =
    let small = ltb→lt u no_set (both_l (ltb u no_set) (not (has own u)) (both_r (ltb 0 u) _ h)) in
    let free = both_r (ltb u no_set) (not (has own u)) (both_r (ltb 0 u) _ h) in
    let inside = minus-subset u r in
    both (ltb 0 (minus u r)) _ (lt→ltb 0 (minus u r) some)
    (both (ltb (minus u r) no_set) (not (has own (minus u r)))
    (lt→ltb (minus u r) no_set (omega (arith, subset_le (minus u r) u inside)))
    (not_T (has own (minus u r)) (λ k. T_not (has own u) free (has_mono own (minus u r) u inside k))))

pub withdraw_fit : (own wide width r : ℕ) (p : List ℕ) → T (terms_fit own wide p) → T (not (is_true (withdraw r p))) → length (withdraw r p) ≤ width
    → T (terms_fit own width (withdraw r p))
withdraw_fit own wide width r p h n few =
    let o = ok_terms_out own wide p h in
    ok_terms_in own width (withdraw r p)
    record {
      some = withdraw-some r p o.some;
      few = few;
      norm = withdraw-normal r p;
      each = λ t m.
          let u = withdraw_out r p t m in
          subst (λ (x : ℕ). T (term_fits own x)) (sym u.2)
          (term_less own u.0 r (o.each u.0 u.1) (subst (λ (x : ℕ). 0 < x) u.2 (not_true_full (withdraw r p) n t m)));
    }

pub withdrawn_datum_ok : (own r : ℕ) (d : Datum) → T (datum_ok own d) → T (not (is_true (withdrawn_datum r d).terms)) → T (datum_ok own (withdrawn_datum r d))
withdrawn_datum_ok own r d h n =
    let o = ok_datum_out own d h in
    ok_datum_in own (withdrawn_datum r d) record { ends = o.ends; below = o.below; fit = withdraw_fit own datum_terms datum_terms r d.terms o.fit n (fewer own datum_terms r d.terms o.fit) }

pub withdrawn_ok : (own r : ℕ) (k : Store) → T (store_ok own k) → T (store_ok own (withdrawn r k))
unfolding store_ok withdrawn withdrawn_data withdrawn_entries
withdrawn_ok own r k h =
    let ds = both_l (list_all (datum_ok own) k.held) _ h in
    let es = both_r (list_all (datum_ok own) k.held) (list_all (terms_fit own entry_terms) k.entries) h in
    both (list_all (datum_ok own) (filter (λ d. not (is_true d.terms)) (map (withdrawn_datum r) k.held))) _
    (all_in (datum_ok own) (filter (λ d. not (is_true d.terms)) (map (withdrawn_datum r) k.held)) (λ d m.
    let q = keep_out (λ d. not (is_true d.terms)) (map (withdrawn_datum r) k.held) d m in
    let u = map_out (withdrawn_datum r) k.held d q.0 in
    subst (λ (x : Datum). T (datum_ok own x)) (sym u.2)
    (withdrawn_datum_ok own r u.0 (all_out (datum_ok own) k.held ds u.0 u.1) (subst (λ (x : Datum). T (not (is_true x.terms))) u.2 q.1))))
    (all_in (terms_fit own entry_terms) (filter (λ e. not (is_true e)) (map (withdraw r) k.entries)) (λ e m.
    let q = keep_out (λ e. not (is_true e)) (map (withdraw r) k.entries) e m in
    let u = map_out (withdraw r) k.entries e q.0 in
    subst (λ (x : List ℕ). T (terms_fit own entry_terms x)) (sym u.2)
    (let old = all_out (terms_fit own entry_terms) k.entries es u.0 u.1 in
    withdraw_fit own entry_terms entry_terms r u.0 old (subst (λ (x : List ℕ). T (not (is_true x))) u.2 q.1) (fewer own entry_terms r u.0 old))))

-- ---- no more than there were

pub withdrawn-held_le : (r : ℕ) (k : Store) → length (withdrawn r k).held ≤ length k.held
unfolding withdrawn withdrawn_data
withdrawn-held_le r k =
    omega (arith, length-keep (λ (d : Datum). not (is_true d.terms)) (map (withdrawn_datum r) k.held), length-map k.held (withdrawn_datum r))

pub withdrawn_entries_le : (r : ℕ) (k : Store) → length (withdrawn r k).entries ≤ length k.entries
unfolding withdrawn withdrawn_entries
withdrawn_entries_le r k =
    omega (arith, length-keep (λ (e : List ℕ). not (is_true e)) (map (withdraw r) k.entries), length-map k.entries (withdraw r))

-- ---- where nobody is withdrawn

untouched : (p : List ℕ) → T (list_all (λ t. eqb (shared t 0) 0) p)
unfolding shared
untouched [] = tt
untouched (t ∷ p) = both (eqb (bit_and t 0) 0) _ (subst (λ (x : ℕ). T (eqb x 0)) (sym (and_zero_r t)) tt) (untouched p)

-- a right predicate stays, and is not true
fit_stays : (own width : ℕ) (p : List ℕ) → T (terms_fit own width p) → (withdraw 0 p ≡ p) × T (not (is_true p))
unfolding is_true term_fits
fit_stays own width p h =
    let o = ok_terms_out own width p h in (
      withdraw-none 0 p o.norm (untouched p),
      not_T (list_any (λ t. eqb t 0) p) (λ k.
          let u = any_out (λ t. eqb t 0) p k in
          let full = ltb→lt 0 u.0 (both_l (ltb 0 u.0) _ (o.each u.0 u.1)) in
          omega (arith, full, eqb→eq u.0 0 u.2)),
    )

-- elements that stay and pass are all there
keep-map : {A : Type 0} (f : A → A) (p : A → Bool) (l : List A) → ((x : A) → In x l → (f x ≡ x) × T (p x)) → filter p (map f l) ≡ l
keep-map f p [] h = refl
keep-map f p (x ∷ l) h =
    let a = h x (inl refl) in
    rw (a.0, T_true (p x) a.1, keep-map f p l (λ y m. h y (inr m)))

pub withdrawn_data-none : (own : ℕ) (ds : List Datum) → T (list_all (datum_ok own) ds) → withdrawn_data 0 ds ≡ ds
unfolding withdrawn_data
withdrawn_data-none own ds h =
    keep-map (withdrawn_datum 0) (λ d. not (is_true d.terms)) ds (λ d m.
    let a = fit_stays own datum_terms d.terms (ok_datum_out own d (all_out (datum_ok own) ds h d m)).fit in
    (ap (λ (p : List ℕ). datum d.left d.right p) a.0, a.1))

pub withdrawn-none : (own : ℕ) (k : Store) → T (store_ok own k) → withdrawn 0 k ≡ k
unfolding store_ok withdrawn withdrawn_entries
withdrawn-none own k h =
    let ds = both_l (list_all (datum_ok own) k.held) _ h in
    let es = both_r (list_all (datum_ok own) k.held) (list_all (terms_fit own entry_terms) k.entries) h in
    ap₂ (λ (x : List Datum) (y : List (List ℕ)). record { held = x; entries = y })
    (withdrawn_data-none own k.held ds)
    (keep-map (withdraw 0) (λ e. not (is_true e)) k.entries (λ e m. fit_stays own entry_terms e (all_out (terms_fit own entry_terms) k.entries es e m)))
