-- Ageing in two calls is ageing in one, and the other way round (document 02, W-205): advances are exact, so they add up, and an earlier reading brings
-- no end further than a later one. Assumes nothing.
use Prim.Native.Nat.{ℕ, ◌+◌, ◌*◌, ◌-◌, ◌≤◌}
use mathlib.Core.Path.{◌≡◌, refl, sym, ap, ap₂, subst, ◌∙◌}
use mathlib.Core.Bool.{Bool, true, false, not, ◌||◌}
use mathlib.Core.List.{List, [], ◌∷◌, map}
use native.Mathlib.Nat.{add_assoc, add-mul, mul-le-mul_right}
use native.Mathlib.Omega.{arith}
use lib.Dec.{T, not_T, leb, ltb, leb→le, nleb→lt, ltb→lt, nltb→le}
use Rattle.predicates.proofs.ListLaws.{neither}
use Rattle.std.specs.List.{list_any}
use Rattle.ends.specs.Ends.{million}
use Rattle.state.specs.Model.{Datum, State, end_limit, reading_limit}
use Rattle.state.proofs.LentLaws.{refuse-none}
use Rattle.engine.specs.Ageing.{least_advance, greatest_advance, slow, fast, widened, aged}
use Rattle.engine.specs.Calls.{age, moved, made, done}
use Rattle.engine.specs.Refusals.{an_end_passes, passes_end, age_refusal}

widened_twice : (a b c e : ℕ) (ds : List Datum) → map (widened c e) (map (widened a b) ds) ≡ map (widened (a + c) (b + e)) ds
unfolding widened
widened_twice a b c e [] = refl
widened_twice a b c e (d ∷ ds) =
    ap₂ (λ (x : Datum) (xs : List Datum). x ∷ xs)
    (ap₂ (λ (l r : ℕ). record { left = l; right = r; terms = d.terms }) (add_assoc d.left a c) (add_assoc d.right b e)) (widened_twice a b c e ds)

module _ (st : State) (t u : ℕ) (low : st.head.reading ≤ t) (high : t ≤ u) where
  passed_sum : (t - st.head.reading) + (u - t) ≡ u - st.head.reading
  passed_sum = omega arith

  slow-sum : slow st.head t + slow (moved st.head (age t)) u ≡ slow st.head u
  unfolding slow least_advance moved
  slow-sum = sym (add-mul (t - st.head.reading) (u - t) (million - st.head.drift)) ∙ ap (λ (d : ℕ). d * (million - st.head.drift)) passed_sum

  fast_sum : fast st.head t + fast (moved st.head (age t)) u ≡ fast st.head u
  unfolding fast greatest_advance moved
  fast_sum = sym (add-mul (t - st.head.reading) (u - t) (million + st.head.drift)) ∙ ap (λ (d : ℕ). d * (million + st.head.drift)) passed_sum

  age_twice : done (done st (age t)) (age u) ≡ done st (age u)
  unfolding done made moved aged
  age_twice =
      ap (λ (ds : List Datum). record { head = moved st.head (age u); store = record { held = ds; entries = st.store.entries } })
      (widened_twice (slow st.head t) (fast st.head t) (slow (moved st.head (age t)) u) (fast (moved st.head (age t)) u) st.store.held
      ∙ ap₂ (λ (a b : ℕ). map (widened a b) st.store.held) slow-sum fast_sum)

-- ---- the refusals

-- what a taken ageing passed
record AgePassed (st : State) (t : ℕ) : Type 0 where
  early : T (not (leb reading_limit t))
  later : T (not (ltb t st.head.reading))
  fits : T (not (list_any an_end_passes (done st (age t)).store.held))

age_passed : (st : State) (t : ℕ) → age_refusal st t ≡ 0 → AgePassed st t
unfolding age_refusal passes_end done made
age_passed st t e =
    let a = refuse-none (leb reading_limit t) 3 _ (omega arith) e in
    let b = refuse-none (ltb t st.head.reading) 20 _ (omega arith) a.1 in
    let c = refuse-none (passes_end (made st.head st.store (age t))) 30 _ (omega arith) b.1 in
    record { early = a.0; later = b.0; fits = c.0 }

-- no test gives its number
no_test : (b : Bool) → T (not b) → b ≡ false
no_test true h = absurd h
no_test false h = refl

passed_age : (st : State) (t : ℕ) → AgePassed st t → age_refusal st t ≡ 0
unfolding age_refusal passes_end done made
passed_age st t p = rw (no_test (leb reading_limit t) p.early, no_test (ltb t st.head.reading) p.later, no_test (list_any an_end_passes (done st (age t)).store.held) p.fits)

-- two readings, the second no earlier: the one call is taken, and makes the same state
pub age_once : (st : State) (t u : ℕ) → age_refusal st t ≡ 0 → age_refusal (done st (age t)) u ≡ 0
    → (age_refusal st u ≡ 0) × (done (done st (age t)) (age u) ≡ done st (age u))
unfolding done moved
age_once st t u a b =
    let p = age_passed st t a in
    let q = age_passed (done st (age t)) u b in
    let low = nltb→le t st.head.reading p.later in
    let high = nltb→le u t q.later in
    let same = age_twice st t u low high in (
      passed_age st u record {
        early = q.early;
        later = not_T (ltb u st.head.reading) (λ c. let l = ltb→lt u st.head.reading c in omega arith);
        fits = subst (λ (z : State). T (not (list_any an_end_passes z.store.held))) same q.fits;
      },
      same,
    )

-- ---- the other way round

none_of : (a b : Bool) → T (not a) → T (not b) → T (not (a || b))
none_of true b s t = absurd s
none_of false b s t = t

-- ends that stay below the last one when they gain more do so when they gain less
fits_less : (a b c e : ℕ) → a ≤ c → b ≤ e → (ds : List Datum) → T (not (list_any an_end_passes (map (widened c e) ds)))
    → T (not (list_any an_end_passes (map (widened a b) ds)))
unfolding widened
fits_less a b c e l r [] t = tt
fits_less a b c e l r (d ∷ ds) t =
    let far = neither (an_end_passes (widened c e d)) (list_any an_end_passes (map (widened c e) ds)) t in
    let ends = neither (leb end_limit (d.left + c)) (leb end_limit (d.right + e)) far.0 in
    none_of (an_end_passes (widened a b d)) (list_any an_end_passes (map (widened a b) ds))
    (none_of (leb end_limit (d.left + a)) (leb end_limit (d.right + b)) (less d.left a c l ends.0) (less d.right b e r ends.1))
    (fits_less a b c e l r ds far.1)
  where
    less : (x m n : ℕ) → m ≤ n → T (not (leb end_limit (x + n))) → T (not (leb end_limit (x + m)))
    less x m n h k =
        let below = nleb→lt end_limit (x + n) k in
        not_T (leb end_limit (x + m)) (λ z. let past = leb→le end_limit (x + m) z in omega arith)

-- a reading between: both calls are taken
pub age-parted : (st : State) (t u : ℕ) → st.head.reading ≤ t → t ≤ u → age_refusal st u ≡ 0
    → (age_refusal st t ≡ 0) × (age_refusal (done st (age t)) u ≡ 0)
unfolding done made moved aged slow fast least_advance greatest_advance
age-parted st t u low high e =
    let p = age_passed st u e in
    let passed : t - st.head.reading ≤ u - st.head.reading = omega arith in
    let slower : slow st.head t ≤ slow st.head u = mul-le-mul_right (million - st.head.drift) passed in
    let faster : fast st.head t ≤ fast st.head u = mul-le-mul_right (million + st.head.drift) passed in (
      passed_age st t record {
        early = not_T (leb reading_limit t) (λ c. let l = leb→le reading_limit t c in let k = nleb→lt reading_limit u p.early in omega arith);
        later = not_T (ltb t st.head.reading) (λ c. let l = ltb→lt t st.head.reading c in omega arith);
        fits = fits_less (slow st.head t) (fast st.head t) (slow st.head u) (fast st.head u) slower faster st.store.held p.fits;
      },
      passed_age (done st (age t)) u record {
        early = p.early;
        later = not_T (ltb u t) (λ c. let l = ltb→lt u t c in omega arith);
        fits = subst (λ (z : State). T (not (list_any an_end_passes z.store.held))) (sym (age_twice st t u low high)) p.fits;
      },
    )
