-- One turn of each loop of the crate, on plain values. No contract cites this file. Assumes nothing.
use Prim.Native.Nat.{ℕ, ◌+◌, ◌-◌, ◌≤◌, ◌<◌, min}
use mathlib.Core.Path.{◌≡◌, sym, ap, ◌∙◌}
use mathlib.Core.Bool.{Bool, true, false, ◌&&◌, and_assoc}
use mathlib.Core.List.{List, ◌∷◌}
use native.Mathlib.Numerals.{add-one}
use native.Mathlib.Omega.{arith}
use lib.ListN.{length, get_or, take, drop, drop_of_length-le, length-drop}
use lib.Seq.{drop-cons, take_all}
use lib.Count.{ones}
use Rattle.std.specs.List.{list_any, list_all}
use Rattle.predicates.specs.Predicates.{degree, precedes, is_normal}

-- ---- a loop that tests the elements from i on

-- the elements from i on, in the code's `i + 1`
pub drop_next : (l : List ℕ) (i : ℕ) → i < length l → drop i l ≡ get_or l i 0 ∷ drop (i + 1) l
drop_next l i h = rw (add-one, drop-cons l i 0 h)

module _ (f : ℕ → Bool) (l : List ℕ) (i : ℕ) where
  -- no element passes behind the last
  pub any-done : length l ≤ i → list_any f (drop i l) ≡ false
  any-done h = rw (drop_of_length-le l {i = i} h)

  pub all_here : i < length l → f (get_or l i 0) ≡ false → list_all f (drop i l) ≡ false
  all_here h e = rw (drop_next l i h, e)

  pub all_next : i < length l → f (get_or l i 0) ≡ true → list_all f (drop i l) ≡ list_all f (drop (i + 1) l)
  all_next h e = rw (drop_next l i h, e)

  -- a test that is carried along
  pub all-turn : (a b t : Bool) → i < length l → b ≡ f (get_or l i 0) → a && list_all f (drop i l) ≡ t → a && b && list_all f (drop (i + 1) l) ≡ t
  all-turn a b t h e q = rw e (and_assoc a (f (get_or l i 0)) (list_all f (drop (i + 1) l)) ∙ rw (drop_next l i h) at q)

  pub all_done : length l ≤ i → list_all f (drop i l) ≡ true
  all_done h = rw (drop_of_length-le l {i = i} h)

-- ---- the smallest term

pub degree_next : (p : List ℕ) (i : ℕ) → i < length p → degree (drop i p) ≡ min (ones (get_or p i 0)) (degree (drop (i + 1) p))
unfolding degree
degree_next p i h = rw (drop_next p i h)

pub degree-done : (p : List ℕ) (i : ℕ) → length p ≤ i → degree (drop i p) ≡ 30
unfolding degree
degree-done p i h = rw (drop_of_length-le p {i = i} h)

-- ---- the test for normal form; r is the test of the term at i against the part behind it

module _ (p : List ℕ) (i : ℕ) (h : i < length p) (r : Bool) (e : r ≡ list_all (λ u. precedes (get_or p i 0) u) (take (length p - (i + 1)) (drop (i + 1) p))) where
  behind : list_all (λ u. precedes (get_or p i 0) u) (drop (i + 1) p) ≡ r
  behind = ap (λ (q : List ℕ). list_all (λ u. precedes (get_or p i 0) u) q) (sym (take_all (length p - (i + 1)) (drop (i + 1) p) (omega (arith, length-drop (i + 1) p)))) ∙ sym e

  pub normal_stop : r ≡ false → is_normal (drop i p) ≡ false
  unfolding is_normal
  normal_stop q = rw (drop_next p i h, behind, q)

  pub normal_next : r ≡ true → is_normal (drop i p) ≡ is_normal (drop (i + 1) p)
  unfolding is_normal
  normal_next q = rw (drop_next p i h, behind, q)

pub normal-done : (p : List ℕ) (i : ℕ) → length p ≤ i → is_normal (drop i p) ≡ true
unfolding is_normal
normal-done p i h = rw (drop_of_length-le p {i = i} h)
