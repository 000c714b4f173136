-- The answer at the limit 0, of a state in which no predicate has the empty term: the only set is the empty one, it leaves every predicate false,
-- and the common part of all intervals is from the greatest left end to the least right end. So one pass over the held data finds it.
-- Assumes nothing.
use mathlib.Core.Path.{◌≡◌, refl, sym, ap, ap₂, ◌∙◌}
use mathlib.Core.Logic.{inl, inr}
use mathlib.Core.Bool.{true, false, not, cond}
use mathlib.Core.List.{List, [], ◌∷◌}
use Prim.Native.Nat.{ℕ, ◌≤◌, ◌<◌, min, max}
use native.Mathlib.Omega.{arith}
use borrow.Author.Tests.{lt-leb}
use lib.Dec.{T, not_T, leb, nleb→lt, ltb, ltb→lt}
use lib.ListN.{length}
use Rattle.names.proofs.SetLaws.{subset-empty}
use Rattle.std.specs.List.{list_all}
use Rattle.predicates.specs.Lists.{In}
use Rattle.predicates.specs.Predicates.{holds}
use Rattle.predicates.proofs.PredicateLaws.{holds_out}
use Rattle.predicates.proofs.ListLaws.{both_l, both_r, T_true, T_false, cond_ind, all_out}
use Rattle.state.specs.Model.{Datum, State, end_limit}
use Rattle.state.specs.Form.{term_fits, terms_fit, datum_ok, state_ok}
use Rattle.predicates.proofs.IndexLaws.{all_mono}
use Rattle.state.proofs.StateLaws.{state_out}
use Rattle.asking.specs.declared.Answer.{Answer}
use Rattle.asking.specs.declared.Answer.TheVariants.{Contradicted, Open, Between}
use Rattle.asking.specs.Asking.{interval, cut, common, active, leaves, sets_of, sets_within, either, left_by, exact}
use Rattle.asking.specs.code.Plain.{greatest_left, least_right}
use Rattle.asking.specs.code.Claims.{everything}
use Rattle.asking.proofs.ClaimLaws.{claims_in, claims_out}
use Rattle.state.specs.Layout.{entry_terms}

-- ---- the common part of some intervals

cut-interval : (d : Datum) (l r : ℕ) → cut d (interval l r) ≡ interval (max l d.left) (min r d.right)
unfolding cut
cut-interval d l r =
    cond_ind (λ (a : Answer). cut d a ≡ interval (max l d.left) (min r d.right)) (leb l r) (Between l r) Contradicted (λ _. refl)
    (λ t. let apart = nleb→lt l r t in rw (lt-leb (max l d.left) (min r d.right) (omega arith)))

-- the order of the ends does not matter
greatest_left-max : (m n : ℕ) (ds : List Datum) → greatest_left (max m n) ds ≡ max (greatest_left m ds) n
unfolding greatest_left
greatest_left-max m n [] = refl
greatest_left-max m n (d ∷ ds) =
    let e : max (max m n) d.left ≡ max (max m d.left) n = omega arith in
    ap (λ (x : ℕ). greatest_left x ds) e ∙ greatest_left-max (max m d.left) n ds

least_right-min : (m n : ℕ) (ds : List Datum) → least_right (min m n) ds ≡ min (least_right m ds) n
unfolding least_right
least_right-min m n [] = refl
least_right-min m n (d ∷ ds) =
    let e : min (min m n) d.right ≡ min (min m d.right) n = omega arith in
    ap (λ (x : ℕ). least_right x ds) e ∙ least_right-min (min m d.right) n ds

pub right-below : (m : ℕ) (ds : List Datum) → least_right m ds ≤ m
unfolding least_right
right-below m [] = omega arith
right-below m (d ∷ ds) = omega (arith, right-below (min m d.right) ds)

-- from the greatest left end to the least right end; m is above every right end
pub common-interval : (m : ℕ) (ds : List Datum) → 0 < length ds → ((d : Datum) → In d ds → d.right < m)
    → common ds ≡ interval (greatest_left 0 ds) (least_right m ds)
unfolding common cut greatest_left least_right
common-interval m [] h f = absurd (omega arith)
common-interval m (d ∷ []) h f =
    let l : d.left ≡ max 0 d.left = omega arith in
    let r : d.right ≡ min m d.right = omega (arith, f d (inl refl)) in
    ap₂ interval l r
common-interval m (d ∷ e ∷ ds) h f =
    ap (cut d) (common-interval m (e ∷ ds) (omega arith) (λ c i. f c (inr i))) ∙ cut-interval d (greatest_left 0 (e ∷ ds)) (least_right m (e ∷ ds))
    ∙ ap₂ interval (sym (greatest_left-max 0 d.left (e ∷ ds))) (sym (least_right-min m d.right (e ∷ ds)))

-- ---- the empty set

either-none : (a : Answer) → either a Contradicted ≡ a
unfolding either
either-none Contradicted = refl
either-none Open = refl
either-none (Between l r) = refl

-- it is the only one
answer-leaves : (st : State) → exact 0 st ≡ leaves 0 st.store
unfolding exact sets_within sets_of left_by
answer-leaves st = either-none (leaves 0 st.store)

pub all-active : (ds : List Datum) → ((d : Datum) → In d ds → T (not (holds 0 d.terms))) → active 0 ds ≡ ds
unfolding active
all-active [] f = refl
all-active (d ∷ ds) f =
    rw (T_true (not (holds 0 d.terms)) (f d (inl refl))) (ap (λ (es : List Datum). d ∷ es) (all-active ds (λ e m. f e (inr m))))

some_false : (es : List (List ℕ)) → 0 < length es → T (list_all (λ p. not (holds 0 p)) es) → list_all (holds 0) es ≡ false
some_false [] h t = absurd (omega arith)
some_false (p ∷ es) h t = rw (T_false (holds 0 p) (both_l (not (holds 0 p)) (list_all (λ q. not (holds 0 q)) es) t))

none_false : (es : List (List ℕ)) → length es ≡ 0 → list_all (holds 0) es ≡ true
none_false [] h = refl
none_false (p ∷ es) h = absurd (omega arith)

pub none-common : (ds : List Datum) → length ds ≡ 0 → common ds ≡ Open
unfolding common
none-common [] h = refl
none-common (d ∷ ds) h = absurd (omega arith)

-- ---- the answer; `bare`: the empty set makes no predicate true, as in a state in form

module _ (st : State) (bare : T (list_all (λ p. not (holds 0 p)) (everything st.store))) where
  pub each_bare : T (list_all (λ p. not (holds 0 p)) st.store.entries) × ((d : Datum) → In d st.store.held → T (not (holds 0 d.terms)))
  unfolding everything
  each_bare = claims_out (λ p. not (holds 0 p)) st.store.entries st.store.held bare

  plain-leaves : exact 0 st ≡ cond (list_all (holds 0) st.store.entries) (common st.store.held) Contradicted
  unfolding leaves
  plain-leaves = answer-leaves st ∙ rw (all-active st.store.held each_bare.1)

  pub plain-contradicted : 0 < length st.store.entries → exact 0 st ≡ Contradicted
  plain-contradicted h = plain-leaves ∙ rw (some_false st.store.entries h each_bare.0)

  plain-common : length st.store.entries ≡ 0 → exact 0 st ≡ common st.store.held
  plain-common e = plain-leaves ∙ rw (none_false st.store.entries e)

  pub plain_open : length st.store.entries ≡ 0 → length st.store.held ≡ 0 → exact 0 st ≡ Open
  plain_open e h = plain-common e ∙ none-common st.store.held h

  pub plain-interval : length st.store.entries ≡ 0 → 0 < length st.store.held
      → ((d : Datum) → In d st.store.held → d.right < end_limit)
      → exact 0 st ≡ interval (greatest_left 0 st.store.held) (least_right end_limit st.store.held)
  plain-interval e h f = plain-common e ∙ common-interval end_limit st.store.held h f

-- ---- a state in form

fit_bare : (own width : ℕ) (p : List ℕ) → T (terms_fit own width p) → T (not (holds 0 p))
unfolding terms_fit term_fits
fit_bare own width p h =
    not_T (holds 0 p) (λ k.
    let r = holds_out 0 p k in
    let terms : T (list_all (term_fits own) p) = search (both_l, both_r) depth 9 in
    let some : T (ltb 0 r.0) = both_l (ltb 0 r.0) _ (all_out (term_fits own) p terms r.0 r.1) in
    omega (arith, ltb→lt 0 r.0 some, subset-empty r.0 r.2))

fit_terms : (own width : ℕ) (p : List ℕ) → T (terms_fit own width p) → T (list_all (term_fits own) p)
unfolding terms_fit
fit_terms own width p h = search (both_l, both_r) depth 9

module _ (st : State) (ok : T (state_ok st)) where
  -- each term of a predicate fits
  pub form-terms : T (list_all (list_all (term_fits st.head.own)) (everything st.store))
  unfolding everything datum_ok
  form-terms =
      let o = state_out st ok in
      let own = st.head.own in
      claims_in (list_all (term_fits own)) st.store.entries st.store.held
      (all_mono (terms_fit own entry_terms) (list_all (term_fits own)) st.store.entries (fit_terms own entry_terms) o.entries)
      (λ d m. let h = all_out (datum_ok own) st.store.held o.held d m in fit_terms own 8 d.terms (search (both_l, both_r) depth 9))

  -- "no empty term"
  pub form-bare : T (list_all (λ p. not (holds 0 p)) (everything st.store))
  unfolding everything datum_ok
  form-bare =
      let o = state_out st ok in
      let own = st.head.own in
      claims_in (λ p. not (holds 0 p)) st.store.entries st.store.held
      (all_mono (terms_fit own entry_terms) (λ p. not (holds 0 p)) st.store.entries (fit_bare own 16) o.entries)
      (λ d m. let h = all_out (datum_ok own) st.store.held o.held d m in fit_bare own 8 d.terms (search (both_l, both_r) depth 9))

  pub form-right : (d : Datum) → In d st.store.held → d.right < end_limit
  unfolding datum_ok
  form-right d m =
      let h = all_out (datum_ok st.head.own) st.store.held (state_out st ok).held d m in
      ltb→lt d.right end_limit (search (both_l, both_r) depth 9)
