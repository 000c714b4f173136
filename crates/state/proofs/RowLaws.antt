-- Rows of predicates in flat arrays: a row lies within its array, and it has terms or has been given up.
-- No contract cites this file. Assumes nothing.
use Prim.Native.Nat.{ℕ, zero, suc, ◌+◌, ◌*◌, ◌≤◌, ◌<◌}
use mathlib.Core.Path.{◌≡◌, refl}
use mathlib.Core.Bool.{Bool, true, false, not}
use lib.Dec.{eqb}
use borrow.Author.Tests.{ne_eqb}
use mathlib.Core.List.{List, [], ◌∷◌}
use native.Mathlib.Nat.{mul-le-mul_right, suc-mul}
use native.Mathlib.Omega.{arith}
use lib.ListN.{length, get_or, take, drop, length-drop}
use lib.Seq.{length-take-le}
use Rattle.state.specs.code.Tables.{table, TableFits, row_of, has_terms}

-- a row lies within its array
pub table-room : (w n : ℕ) (counts masks : List ℕ) → TableFits w n (table counts masks) → (i : ℕ) → i < n → i * w + get_or counts i 0 ≤ length masks
table-room w n counts masks t i h = omega (arith, t.long, t.narrow i, mul-le-mul_right w h, suc-mul i w)

pub row-empty : (w i : ℕ) (counts masks : List ℕ) → get_or counts i 0 ≡ 0 → has_terms (row_of w (table counts masks) i) ≡ false
unfolding row_of has_terms
row-empty w i counts masks e = rw e

pub has_some : (p : List ℕ) → 0 < length p → has_terms p ≡ true
unfolding has_terms
has_some [] h = absurd (omega arith)
has_some (x ∷ p) h = refl

-- a row of as many terms as it counts, of which there are places
pub live-told : (n : ℕ) (l : List ℕ) → 0 < length l → not (eqb n 0) ≡ has_terms (take n l)
unfolding has_terms
live-told n [] h = absurd (omega arith)
live-told zero (x ∷ l) h = refl
live-told (suc n) (x ∷ l) h = rw (ne_eqb (suc n) 0 (λ e. omega arith))

-- a row that has terms does not count 0
pub live-counts : (n : ℕ) (l : List ℕ) → has_terms (take n l) ≡ true → n ≡ 0 → ⊥
unfolding has_terms
live-counts n l e z = let w : ◌≡◌ {A = Bool} false true = rw z at e in cc

pub row_full : (w i : ℕ) (counts masks : List ℕ) → (get_or counts i 0 ≡ 0 → ⊥) → i * w + get_or counts i 0 ≤ length masks → has_terms (row_of w (table counts masks) i) ≡ true
unfolding row_of
row_full w i counts masks f h =
    has_some (take (get_or counts i 0) (drop (i * w) masks))
    (omega (arith, length-take-le (get_or counts i 0) (drop (i * w) masks) (omega (arith, length-drop (i * w) masks)), f))

-- ---- a table of more or fewer rows

pub table_less : (w n m : ℕ) (counts masks : List ℕ) → TableFits w n (table counts masks) → m ≤ n → TableFits w m (table counts masks)
table_less w n m counts masks t h =
    record { counted = omega (arith, t.counted); long = omega (arith, t.long, mul-le-mul_right w h); narrow = t.narrow }

pub table_more : (w n k : ℕ) (counts masks : List ℕ) → TableFits w n (table counts masks) → k ≤ length counts → k * w ≤ length masks → TableFits w k (table counts masks)
table_more w n k counts masks t a b = record { counted = a; long = b; narrow = t.narrow }
