-- What the writers of `rows` leave, on plain values: each call stores its part behind that of the one before.
-- No contract cites this file. Assumes nothing.
use Prim.Native.Nat.{ℕ, zero, suc, ◌+◌, ◌*◌, ◌-◌, ◌≤◌}
use mathlib.Core.Path.{◌≡◌, refl, sym, ap, ◌∙◌}
use mathlib.Core.List.{List, ◌++◌}
use native.Mathlib.Nat.{add-zero}
use native.Mathlib.Omega.{arith}
use lib.ListN.{length, drop}
use Rattle.predicates.specs.Lists.{padded}
use Rattle.numbers.specs.Numbers.{num, bytes, put, bytes_of}
use Rattle.numbers.proofs.NumberLaws.{length-bytes, put_then, length-bytes_of, bytes_of-append}
use Rattle.ends.specs.Ends.{BothSplit}
use Rattle.ends.specs.declared.Ends.{Ends}
use Rattle.ends.proofs.EndLaws.{count-whole, count_millionths}
use Rattle.state.specs.Layout.{zeros, row_bytes, datum_bytes, datum_terms, datum_place, row_in}
use Rattle.state.specs.code.Tables.{datum_of, ends_at, with_ends}
use Rattle.state.proofs.LayoutLaws.{At, num-drop, length-row}
use Rattle.state.proofs.PutLaws.{drop-put, put_stands, put_swap}

-- ---- a row

-- the bytes of masks that are zero
bytes_of-zeros : (k : ℕ) → bytes_of (zeros k) ≡ zeros (k * 4)
unfolding bytes_of bytes
bytes_of-zeros zero = refl
bytes_of-zeros (suc k) =
    let e : suc k * 4 ≡ suc (suc (suc (suc (k * 4)))) = omega arith in
    rw (e, bytes_of-zeros k)

-- the count, the terms behind it, and zeros up to the width
pub row_put : (width at : ℕ) (ts s a b c : List ℕ) → length ts ≤ width → a ≡ put at (bytes 4 (length ts)) s
    → b ≡ put (at + 4) (bytes_of ts) a
    → c ≡ put (at + 4 + length ts * 4) (zeros (at + 4 + width * 4 - (at + 4 + length ts * 4))) b → c ≡ put at (row_bytes width ts) s
unfolding row_bytes padded
row_put width at ts s a b c h p q r =
    let n = length ts in
    let left : at + 4 + width * 4 - (at + 4 + n * 4) ≡ (width - n) * 4 = omega arith in
    let masks : c ≡ put (at + 4) (bytes_of ts ++ zeros ((width - n) * 4)) a =
    put_then (n * 4) (at + 4) (at + 4 + n * 4) (bytes_of ts) (zeros ((width - n) * 4)) a b c (length-bytes_of ts) refl q (rw left at r) in
    rw (bytes_of-append ts (zeros (width - n)), bytes_of-zeros (width - n))
    (put_then 4 at (at + 4) (bytes 4 n) (bytes_of ts ++ zeros ((width - n) * 4)) s a c (length-bytes 4 n) refl p masks)

-- ---- a datum

-- the wholes of both ends, the row, and the millionths of both
pub datum-put : (at : ℕ) (e : Ends) (ts s a b c d f : List ℕ) → BothSplit e → length ts ≤ datum_terms → a ≡ put at (bytes 8 e.left.whole) s
    → b ≡ put (at + 8) (bytes 8 e.right.whole) a → c ≡ put (at + 16) (row_bytes datum_terms ts) b
    → d ≡ put (at + 52) (bytes 4 e.left.millionths) c → f ≡ put (at + 56) (bytes 4 e.right.millionths) d
    → f ≡ put at (datum_bytes (datum_of e ts)) s
unfolding datum_bytes
datum-put at e ts s a b c d f split few p q r v w =
    let low = bytes 4 e.left.millionths in
    let high = bytes 4 e.right.millionths in
    let row = row_bytes datum_terms ts in
    let right = bytes 8 e.right.whole in
    let parts : f ≡ put (at + 52) (low ++ high) c = put_then 4 (at + 52) (at + 56) low high c d f (length-bytes 4 e.left.millionths) (omega arith) v w in
    let terms : f ≡ put (at + 16) (row ++ (low ++ high)) b = put_then 36 (at + 16) (at + 52) row (low ++ high) b c f (length-row datum_terms ts few) (omega arith) r parts in
    let behind : f ≡ put (at + 8) (right ++ (row ++ (low ++ high))) a =
    put_then 8 (at + 8) (at + 16) right (row ++ (low ++ high)) a b f (length-bytes 8 e.right.whole) (omega arith) q terms in
    rw (
      count-whole e.left.whole e.left.millionths split.0,
      count-whole e.right.whole e.right.millionths split.1,
      count_millionths e.left.whole e.left.millionths split.0,
      count_millionths e.right.whole e.right.millionths split.1,
    )
    (put_then 8 at (at + 8) (bytes 8 e.left.whole) (right ++ (row ++ (low ++ high))) s a f (length-bytes 8 e.left.whole) refl p behind)

-- the row first, and then the ends around it
pub datum_written : (i : ℕ) (e : Ends) (ts s : List ℕ) → BothSplit e → length ts ≤ datum_terms
    → with_ends i e (put (datum_place i + row_in) (row_bytes datum_terms ts) s) ≡ put (datum_place i) (datum_bytes (datum_of e ts)) s
unfolding with_ends
datum_written i e ts s split few =
    let at = datum_place i in
    let left = bytes 8 e.left.whole in
    let right = bytes 8 e.right.whole in
    let row = row_bytes datum_terms ts in
    let first = put_swap at (at + 16) left row s (omega (arith, length-bytes 8 e.left.whole)) in
    let second = put_swap (at + 8) (at + 16) right row (put at left s) (omega (arith, length-bytes 8 e.right.whole)) in
    datum-put at e ts s _ _ _ _ _ split few refl refl (rw first second) refl refl

-- other ends, where the row stands
pub ends-put : (i : ℕ) (e : Ends) (ts s : List ℕ) → BothSplit e → length ts ≤ datum_terms → At (datum_place i + row_in) (row_bytes datum_terms ts) s
    → with_ends i e s ≡ put (datum_place i) (datum_bytes (datum_of e ts)) s
unfolding with_ends
ends-put i e ts s split few row =
    let at = datum_place i in
    let left = bytes 8 e.left.whole in
    let right = bytes 8 e.right.whole in
    let a = put at left s in
    let b = put (at + 8) right a in
    let same : drop (at + 16) b ≡ drop (at + 16) s =
    drop-put (at + 16) (at + 8) right a (omega (arith, length-bytes 8 e.right.whole)) ∙ drop-put (at + 16) at left s (omega (arith, length-bytes 8 e.left.whole)) in
    let stands : b ≡ put (at + 16) (row_bytes datum_terms ts) b = sym (put_stands (at + 16) (row_bytes datum_terms ts) b (row.0, same ∙ row.1)) in
    datum-put at e ts s a b b _ _ split few refl refl stands refl refl

-- the ends of a datum, where nothing has changed from it on
pub ends-behind : (i : ℕ) (s u : List ℕ) → drop (datum_place i) u ≡ drop (datum_place i) s → ends_at u i ≡ ends_at s i
unfolding ends_at
ends-behind i s u e =
    let first : num (datum_place i) 8 u ≡ num (datum_place i) 8 s = rw add-zero at (there 8 0) in
    rw (first, there 8 8, there 4 52, there 4 56)
  where
    there : (n k : ℕ) → num (datum_place i + k) n u ≡ num (datum_place i + k) n s
    there n k = sym (num-drop n (datum_place i) k u) ∙ ap (λ (l : List ℕ). num k n l) e ∙ num-drop n (datum_place i) k s
