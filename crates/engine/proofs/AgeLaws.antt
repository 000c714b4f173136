-- Laws of ageing on numbers and lists: the drift in 64 bits, the test of the right ends, and the refusals in the code's words.
-- The idea: with d = q × 1,000,000 + m, d × r is q × r microseconds and m × r millionths; both advances are d less and plus it. What the writers
-- leave is in `proofs.WidenLaws`. No contract cites this file. Assumes nothing.
use Prim.Native.Nat.{ℕ, zero, suc, ◌+◌, ◌*◌, ◌-◌, ◌/◌, ◌%◌, ◌≤◌, ◌<◌}
use mathlib.Core.Path.{◌≡◌, refl, sym, ap, ◌∙◌}
use mathlib.Core.Bool.{Bool, true, false, ◌&&◌, ◌||◌, not, cond, and-true, and_assoc}
use mathlib.Core.List.{List, [], ◌∷◌, ◌++◌, map}
use native.Mathlib.Nat.{mul-add, add-mul, mul_assoc, mul_comm, mod-add-div'}
use native.Mathlib.Omega.{arith}
use borrow.Author.Tests.{ltb-true, ltb-false, lt-ltb, le-ltb, lt-leb, le-leb}
use lib.Dec.{T, leb, ltb, ltb→lt}
use Rattle.std.specs.List.{list_any, list_all}
use Rattle.predicates.specs.Lists.{all_below}
use Rattle.numbers.specs.Numbers.{num, tab}
use Rattle.ends.specs.Ends.{million, count}
use Rattle.state.specs.Model.{Datum, Store, end_limit, reading_limit}
use Rattle.clocks.specs.Clocks.{drift_most}
use Rattle.state.specs.Layout.{datum_at, held_count, head_of, store_of, state_of, drift_at, reading_at}
use Rattle.state.specs.Form.{in_form}
use Rattle.predicates.proofs.IndexLaws.{below_out}
use Rattle.state.proofs.StateLaws.{form_ok, drift-fits}
use Rattle.engine.specs.Ageing.{least_advance, greatest_advance, slow, fast, widened, aged}
use Rattle.engine.specs.Refusals.{age_refusal}
use Rattle.engine.proofs.EndLaws.{ages_right}
use Rattle.engine.specs.code.Ageing.{stays_below}

-- ---- the drift

-- d × r by the quotient and the remainder of d
pub drift_split : (r d : ℕ) → count (d / million * r + d % million * r / million) (d % million * r % million) ≡ d * r
drift_split r d =
    let q = d / million in
    let m = d % million in
    let e : d * r ≡ m * r + q * million * r = ap (λ (x : ℕ). x * r) (sym (mod-add-div' d million)) ∙ add-mul m (q * million) r in
    let f : q * million * r ≡ q * r * million =
    mul_assoc q million r ∙ ap (λ (x : ℕ). q * x) (mul_comm million r) ∙ sym (mul_assoc q r million) in
    omega arith

-- the drift takes d × r from a time at least, and adds it at most: d × (1,000,000 − r) and d × (1,000,000 + r)
pub least-drift : (r d : ℕ) → r ≤ drift_most → least_advance r d + d * r ≡ d * million
unfolding least_advance
least-drift r d h =
    let e : (million - r) + r ≡ million = omega arith in
    sym (mul-add d (million - r) r) ∙ ap (λ (x : ℕ). d * x) e

pub greatest-drift : (r d : ℕ) → greatest_advance r d ≡ d * million + d * r
unfolding greatest_advance
greatest-drift r d = mul-add d million r

-- ---- the right ends

module _ {A : Type 0} (f : A → Bool) where
  all-last : (l : List A) (x : A) → list_all f (l ++ (x ∷ [])) ≡ list_all f l && f x
  all-last [] x = and-true (f x)
  all-last (y ∷ l) x = rw (all-last l x, and_assoc)

  -- a test of a table, element by element
  pub all-tab-below : (n : ℕ) (g : ℕ → A) → list_all f (tab n g) ≡ all_below n (λ i. f (g i))
  unfolding tab all_below
  all-tab-below zero g = refl
  all-tab-below (suc n) g = rw (all-last (tab n g) (g n), all-tab-below n g)

-- the loop's test of place i
abbrev pub stays_at : ℕ → List ℕ → ℕ → Bool
stays_at hi s i = ltb ((datum_at s i).right + hi) end_limit

pub stays_below_lem : (hi : ℕ) (s : List ℕ) → stays_below hi (store_of s) ≡ all_below (held_count s) (stays_at hi s)
unfolding stays_below store_of
stays_below_lem hi s = all-tab-below (λ d. ltb (d.right + hi) end_limit) (held_count s) (datum_at s)

pub stays_out : (hi : ℕ) (s : List ℕ) (i : ℕ) → T (stays_below hi (store_of s)) → i < held_count s → (datum_at s i).right + hi < end_limit
stays_out hi s i t h = ltb→lt _ end_limit (below_out (held_count s) (stays_at hi s) (rw stays_below_lem at t) i h)

-- one of two tests holds
leb_not : (m n : ℕ) (b : Bool) → ltb n m ≡ b → leb m n ≡ not b
leb_not m n true e = lt-leb m n (ltb-true n m e)
leb_not m n false e = le-leb m n (ltb-false n m e)

or_not : (a b : Bool) → not a || not b ≡ not (a && b)
or_not true b = refl
or_not false b = refl

-- "30 an end would pass 2^58 − 1"
passes_stays : (lo hi : ℕ) (k : Store) → list_any (λ d. leb end_limit d.right) (aged lo hi k).held ≡ not (stays_below hi k)
unfolding aged widened stays_below
passes_stays lo hi k = go k.held
  where
    go : (ds : List Datum) → list_any (λ d. leb end_limit d.right) (map (widened lo hi) ds) ≡ not (list_all (λ d. ltb (d.right + hi) end_limit) ds)
    go [] = refl
    go (d ∷ ds) = rw (leb_not end_limit (d.right + hi) (ltb (d.right + hi) end_limit) refl, go ds) (or_not (ltb (d.right + hi) end_limit) (list_all (λ e. ltb (e.right + hi) end_limit) ds))

-- ---- the refusals

pub age_early : (s : List ℕ) (reading : ℕ) → reading_limit ≤ reading → age_refusal (state_of s) reading ≡ 3
unfolding age_refusal
age_early s reading h = rw (le-leb reading_limit reading h)

pub age_back : (s : List ℕ) (reading last : ℕ) → last ≡ num reading_at 8 s → reading < reading_limit → reading < last
    → age_refusal (state_of s) reading ≡ 20
unfolding age_refusal state_of head_of
age_back s reading last e h k = rw (lt-leb reading_limit reading h, ← e, lt-ltb reading last k)

-- the drift that the state holds
pub drift-held : (s : List ℕ) → T (in_form s) → num drift_at 4 s ≤ drift_most
drift-held = drift-fits

-- the code's words for what passed: the last reading, the drift, and both advances
module _ (s : List ℕ) (reading last drift : ℕ) (at_last : last ≡ num reading_at 8 s) (at_drift : drift ≡ num drift_at 4 s) where
  slow_code : least_advance drift (reading - last) ≡ slow (head_of s) reading
  unfolding slow head_of
  slow_code = rw (at_last, at_drift)

  fast_code : greatest_advance drift (reading - last) ≡ fast (head_of s) reading
  unfolding fast head_of
  fast_code = rw (at_last, at_drift)

  pub aged_code : (lo hi : ℕ) (k : Store) → lo ≡ least_advance drift (reading - last) → hi ≡ greatest_advance drift (reading - last)
      → aged lo hi k ≡ aged (slow (head_of s) reading) (fast (head_of s) reading) k
  aged_code lo hi k e f = rw (e, f, slow_code, fast_code)

  -- the last of the tests decides
  pub age-tests : T (in_form s) → (hi : ℕ) (b : Bool) → hi ≡ greatest_advance drift (reading - last) → reading < reading_limit → last ≤ reading → b ≡ stays_below hi (store_of s)
      → age_refusal (state_of s) reading ≡ cond b 0 30
  unfolding age_refusal state_of head_of
  age-tests t hi b f h k e =
      let later : ltb reading (num reading_at 8 s) ≡ false = rw at_last at (le-ltb reading last k) in
      rw (lt-leb reading_limit reading h, later, ages_right (state_of s) reading (form_ok s t), passes_stays (slow (head_of s) reading) (fast (head_of s) reading) (store_of s), ← fast_code, ← f, ← e)
      (turned b)
    where
      turned : (a : Bool) → ◌≡◌ {A = ℕ} (cond (not a) 30 0) (cond a 0 30)
      turned true = refl
      turned false = refl
