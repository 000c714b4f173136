-- The test for form on plain values: one turn of each loop of `form`, and what the tests of a row and of the head say. No contract cites this file.
-- Assumes nothing.
use Prim.Native.Nat.{ℕ, ◌+◌, ◌*◌, ◌-◌, ◌≤◌, ◌<◌}
use mathlib.Core.Path.{◌≡◌, refl, sym, ◌∙◌}
use mathlib.Core.Bool.{Bool, true, false, ◌&&◌, and_assoc, and-true}
use mathlib.Core.List.{List, [], ◌∷◌, ◌++◌}
use native.Mathlib.Numerals.{add-one}
use native.Mathlib.Omega.{arith}
use borrow.Author.Tests.{lt-leb, le-leb}
use lib.Bits.{bit_or}
use lib.Dec.{T, leb, leb→le, eqb}
use lib.ListN.{length, take, drop, length-drop}
use lib.Seq.{take-append-le, drop-append-le, take_at}
use Rattle.std.specs.List.{fold, list_all}
use Rattle.std.proofs.lemmas.List.{drop-take}
use Rattle.predicates.specs.Lists.{all_below}
use Rattle.predicates.specs.Predicates.{is_normal}
use Rattle.predicates.proofs.ListLaws.{both_l, both_r, true_T}
use Rattle.predicates.proofs.BitLaws.{or_zero}
use Rattle.numbers.specs.Numbers.{num}
use Rattle.numbers.proofs.NumberLaws.{length-tab}
use Rattle.state.specs.Layout.{masks_at, row_at, held_count, entry_count, own_at, data_most, entries_most}
use Rattle.state.specs.Form.{term_fits, is_zero, row_fits, head_fits}
use Rattle.state.specs.Model.{name_most}

-- ---- zeros: what is or-ed together is zero where all of it is

-- masks or bytes, from v on
pub or_fold : (p : List ℕ) (v : ℕ) → eqb (fold (λ (a b : ℕ). bit_or a b) v p) 0 ≡ eqb v 0 && list_all (λ t. eqb t 0) p
or_fold [] v = sym (and-true (eqb v 0))
or_fold (t ∷ p) v = or_fold p (bit_or v t) ∙ rw (or_zero v t, and_assoc) refl

-- the bytes from `from` up to `to`, lent as a slice
pub zero-lent : (from to : ℕ) (s : List ℕ) → from ≤ to → list_all (λ b. eqb b 0) (take (to - from) (drop from s)) ≡ is_zero from to s
unfolding is_zero
zero-lent from to s h =
    let whole : from + (to - from) ≡ to = omega arith in
    rw (← drop-take from (to - from) s, whole)

-- ---- places: a test that is carried along

pub below-turn : (f : ℕ → Bool) (i : ℕ) (a b : Bool) → a ≡ all_below i f → b ≡ f i → a && b ≡ all_below (i + 1) f
unfolding all_below
below-turn f i a b p q = rw (p, q, add-one)

-- ---- a row

length-masks_at : (width at : ℕ) (s : List ℕ) → length (masks_at width at s) ≡ width
unfolding masks_at
length-masks_at width at s = length-tab width (λ j. num (at + 4 + j * 4) 4 s)

module _ (own width at n : ℕ) (s : List ℕ) (e : n ≡ num at 4 s) where
  pub row-none : n < 1 → row_fits own width at s ≡ false
  unfolding row_fits
  row-none h = rw (← e, lt-leb 1 n h)

  pub row_many : 1 ≤ n → width < n → row_fits own width at s ≡ false
  unfolding row_fits
  row_many h k = rw (← e, le-leb 1 n h, lt-leb n width k)

  -- the row was read into a longer array
  pub row-tests : (row rest : List ℕ) (a c : Bool) → 1 ≤ n → n ≤ width → row ≡ masks_at width at s ++ rest
      → a ≡ is_normal (take n row) && list_all (term_fits own) (take n row) → c ≡ list_all (λ t. eqb t 0) (take (width - n) (drop n row))
      → a && c ≡ row_fits own width at s
  unfolding row_fits row_at
  row-tests row rest a c h k m p r =
      let masks = masks_at width at s in
      let long : length masks ≡ width = length-masks_at width at s in
      let front : take n row ≡ take n masks = rw m (take-append-le n masks rest (omega arith)) in
      let behind : take (width - n) (drop n row) ≡ drop n masks =
      rw (m, drop-append-le n masks rest (omega arith)) (take_at (drop n masks) rest (width - n) (omega (arith, length-drop n masks))) in
      rw (p, r, front, behind, ← e, le-leb 1 n h, le-leb n width k) (and_assoc (is_normal (take n masks)) (list_all (term_fits own) (take n masks)) (list_all (λ t. eqb t 0) (drop n masks)))

-- ---- the head

pub head_out : (s : List ℕ) → head_fits s ≡ true → (num own_at 4 s ≤ name_most) × (held_count s ≤ data_most) × (entry_count s ≤ entries_most)
unfolding head_fits
head_out s e =
    let t = true_T _ e in
    let own : T (leb (num own_at 4 s) name_most) = search both_l in
    let held : T (leb (held_count s) 16) = search (both_l, both_r) depth 9 in
    let entries : T (leb (entry_count s) 32) = search (both_l, both_r) depth 9 in
    (leb→le _ _ own, leb→le _ _ held, leb→le _ _ entries)
