-- Laws of the form (`specs.Form`), part by part: places filled up with zeros, rows, data, entries.
-- The idea: each part has two laws. `-in` goes from what stands at its place (`At` of `proofs.LayoutLaws`) to what is read there and to the
-- test; `-out` and `-part` from the test to the facts of what is read and to the bytes that stand there. One law over the row's width serves
-- data and entries, and one over the size of the elements serves their places. No contract cites this file. Assumes nothing.
use Prim.Native.Nat.{ℕ, ◌+◌, ◌*◌, ◌-◌, ◌/◌, ◌%◌, ◌^◌, ◌≤◌, ◌<◌}
use mathlib.Core.Path.{◌≡◌, refl, sym, ap, ◌∙◌}
use mathlib.Core.Bool.{Bool, true, false, ◌&&◌, ◌||◌, not, and_assoc}
use mathlib.Core.List.{List, ◌++◌}
use native.Mathlib.Nat.{add-mul}
use native.Mathlib.Omega.{arith}
use native.Mathlib.Decide.{ℕ_discrete, dec_lt}
use borrow.Author.Tests.{lt-ltb, le-ltb, le-leb, eq-eqb, ne_eqb}
use lib.Dec.{T, leb, leb→le, ltb, ltb→lt, lt→ltb, eqb}
use lib.ListN.{length, get_or, drop, replicate, length-append, length-replicate, length-drop, take-append-drop}
use lib.Seq.{take_at, drop_at, length-take-le}
use Rattle.numbers.specs.Numbers.{num, bytes, tab, Bytes, bytes_of}
use Rattle.numbers.proofs.NumberLaws.{bytes-num, length-bytes, length-tab, tab_ext}
use Rattle.std.specs.List.{list_all}
use Rattle.predicates.specs.Lists.{all_below, padded}
use Rattle.predicates.proofs.ListLaws.{both, both_l, both_r, true_T}
use Rattle.ends.specs.Ends.{million, count, count_of, BothSplit}
use Rattle.ends.specs.declared.Ends.{Ends}
use Rattle.ends.proofs.EndLaws.{count-whole, count_millionths, count-parts, millionths_split, not_precedes}
use Rattle.state.specs.Model.{Datum, last_whole, end_limit}
use Rattle.state.specs.code.Tables.{ends_at}
use Rattle.state.specs.Layout.{zeros, joined, row_bytes, datum_bytes, entry_bytes, masks_at, row_at, datum_at, entry_at, datum_place, entry_place, datum_terms, entry_terms, row_in}
use Rattle.state.specs.Form.{term_fits, terms_fit, is_zero, row_fits, datum_fits, entry_fits, datum_ok}
use Rattle.predicates.proofs.IndexLaws.{all_mono, all_append, all_replicate, all_get_or, below_in}
use Rattle.state.proofs.LayoutLaws.{all_zero, part, length_part, part_add, slice_part, At, at_first_lem, at_then, at_part, num_at, bytes_of-joined, joined-tab, length-joined, at_joined, length-padded, length-row, length-datum, length_entry}
use Rattle.names.specs.Sets.{no_set}

-- ---- places filled up with zeros

-- n places of one size and those behind them, up to cap
pub sizes_add : (cap n size : ℕ) → n ≤ cap → cap * size ≡ n * size + (cap - n) * size
sizes_add cap n size h = let e : cap ≡ n + (cap - n) = omega arith in ap (λ (k : ℕ). k * size) e ∙ add-mul n (cap - n) size

pub zeros_in : (at k to : ℕ) (s : List ℕ) → to ≡ at + k → At at (zeros k) s → T (is_zero at to s)
unfolding is_zero
zeros_in at k to s e h =
    rw (e, slice_part at k s, at_part k at (zeros k) s (length-replicate k 0) h) (all_replicate (λ b. eqb b 0) k 0 tt)

pub zeros_out : (at k to : ℕ) (s : List ℕ) → to ≡ at + k → to ≤ length s → T (is_zero at to s) → part at k s ≡ zeros k
unfolding is_zero
zeros_out at k to s e h t =
    let all_of : T (list_all (λ b. eqb b 0) (part at k s)) = rw (e, slice_part at k s) at t in
    all_zero (part at k s) all_of ∙ rw (length_part at k s (omega arith))

module _ {A : Type 0} (f : A → List ℕ) (size cap at : ℕ) where
  -- the elements that stand at places, and the zeros behind them, written
  pub filled_part : (n : ℕ) (g : ℕ → A) (s : List ℕ) → n ≤ cap → at + cap * size ≤ length s
      → ((i : ℕ) → i < n → f (g i) ≡ part (at + i * size) size s) → T (is_zero (at + n * size) (at + cap * size) s)
      → joined f (tab n g) ++ zeros ((cap - n) * size) ≡ part at (cap * size) s
  filled_part n g s h k each t =
      let e = sizes_add cap n size h in
      let behind = zeros_out (at + n * size) ((cap - n) * size) (at + cap * size) s (omega arith) k t in
      rw (e, part_add at (n * size) ((cap - n) * size) s, behind, joined-tab f size at n g s each)

  module _ (p : A → Bool) (sized : (x : A) → T (p x) → length (f x) ≡ size) (xs : List A) (t : T (list_all p xs)) (h : length xs ≤ cap) where
    pub length_filled : length (joined f xs ++ zeros ((cap - length xs) * size)) ≡ cap * size
    length_filled =
        rw (length-append, length-replicate, length-joined f p size sized xs t) (sym (sizes_add cap (length xs) size h))

    pub filled_zero : (s : List ℕ) → At at (joined f xs ++ zeros ((cap - length xs) * size)) s
        → T (is_zero (at + length xs * size) (at + cap * size) s)
    filled_zero s k =
        zeros_in (at + length xs * size) ((cap - length xs) * size) (at + cap * size) s (omega (arith, sizes_add cap (length xs) size h))
        (at_then (length xs * size) at (joined f xs) _ s (length-joined f p size sized xs t) k)

    -- what each place gives where an element stands at it, all places give
    module _ (g : ℕ → A) (test : ℕ → Bool) (s : List ℕ) (each : (i : ℕ) (x : A) → T (p x) → At (at + i * size) (f x) s → (g i ≡ x) × T (test i))
        (d : A) (k : At at (joined f xs ++ zeros ((cap - length xs) * size)) s) where
      place : (i : ℕ) → i < length xs → (g i ≡ get_or xs i d) × T (test i)
      place i l =
          each i (get_or xs i d) (all_get_or p xs i d t l) (at_joined f p size sized d at i xs s t l (at_first_lem at (joined f xs) _ s k))

      pub places_in : (tab (length xs) g ≡ xs) × T (all_below (length xs) test && is_zero (at + length xs * size) (at + cap * size) s)
      places_in = (
        tab_ext d (length xs) g xs refl (λ i l. (place i l).0),
        both (all_below (length xs) test) _ (below_in (length xs) test (λ i l. (place i l).1)) (filled_zero s k),
      )

-- ---- rows

-- 4 bytes hold it
is_word : ℕ → Bool
is_word v = ltb v (2 ^ 32)

term_word : (own v : ℕ) → T (term_fits own v) → T (is_word v)
unfolding is_word term_fits
term_word own v t =
    let k : T (ltb v no_set) = search (both_l, both_r) in
    lt→ltb v (2 ^ 32) (omega (arith, ltb→lt v no_set k))

fits_le : (own width : ℕ) (p : List ℕ) → T (terms_fit own width p) → length p ≤ width
unfolding terms_fit
fits_le own width p t = leb→le (length p) width (search (both_l, both_r) depth 9)

-- a row that stands at its place is read, and fits
module _ (own width at : ℕ) (p s : List ℕ) (w : width ≤ 16) (t : T (terms_fit own width p)) (h : At at (row_bytes width p) s) where
  row_count : num at 4 s ≡ length p
  unfolding row_bytes
  row_count = num_at 4 at (length p) s (omega (arith, fits_le own width p t)) (at_first_lem at (bytes 4 (length p)) _ s h)

  row-masks : masks_at width at s ≡ padded width p
  unfolding row_bytes masks_at padded is_word terms_fit
  row-masks =
      let ws = padded width p in
      let terms : T (list_all (term_fits own) p) = search (both_l, both_r) depth 9 in
      let each : T (list_all is_word ws) =
      all_append is_word p _ (all_mono (term_fits own) is_word p (term_word own) terms) (all_replicate is_word (width - length p) 0 tt) in
      let here : At (at + 4) (joined (bytes 4) ws) s =
      rw bytes_of-joined at (at_then 4 at (bytes 4 (length p)) (bytes_of ws) s (length-bytes 4 (length p)) h) in
      let long = length-padded width p (fits_le own width p t) in
      tab_ext 0 width _ ws long
      (λ j k. num_at 4 (at + 4 + j * 4) (get_or ws j 0) s (ltb→lt (get_or ws j 0) (2 ^ 32) (all_get_or is_word ws j 0 each (omega arith)))
      (at_joined (bytes 4) is_word 4 (λ v _. length-bytes 4 v) 0 (at + 4) j ws s each (omega arith) here))

  pub row_read : row_at width at s ≡ p
  unfolding row_at padded
  row_read = rw (row_count, row-masks) (take_at p _ (length p) refl)

  pub row_in_lem : T (row_fits own width at s)
  unfolding row_fits terms_fit padded
  row_in_lem =
      rw (row_read, row_count, row-masks, drop_at p (replicate (width - length p) 0) (length p) refl)
      (search (both, both_l, both_r, all_replicate (λ v. eqb v 0) (width - length p) 0 tt) depth 12)

-- a row that fits: what is read of it, and its bytes
module _ (own width at : ℕ) (s : List ℕ) (t : T (row_fits own width at s)) where
  pub row_le : num at 4 s ≤ width
  unfolding row_fits
  row_le = leb→le (num at 4 s) width (search (both_l, both_r) depth 9)

  pub length-row_at : length (row_at width at s) ≡ num at 4 s
  unfolding row_at masks_at
  length-row_at = length-take-le (num at 4 s) (masks_at width at s) (omega (arith, row_le, length-tab width (λ j. num (at + 4 + j * 4) 4 s)))

  pub row_out : T (terms_fit own width (row_at width at s))
  unfolding row_fits terms_fit
  row_out = rw length-row_at (search (both, both_l, both_r) depth 12)

  pub row-padded : padded width (row_at width at s) ≡ masks_at width at s
  unfolding row_fits padded row_at masks_at
  row-padded =
      let n = num at 4 s in
      let ms = masks_at width at s in
      let unused : T (list_all (λ v. eqb v 0) (drop n ms)) = search (both_l, both_r) depth 9 in
      let long : length (drop n ms) ≡ width - n = length-drop n ms ∙ rw length-tab in
      let rest : zeros (width - n) ≡ drop n ms = sym (all_zero (drop n ms) unused ∙ rw long) in
      rw (length-row_at, rest) (take-append-drop n ms)

  pub row_part : Bytes s → at + (4 + width * 4) ≤ length s → row_bytes width (row_at width at s) ≡ part at (4 + width * 4) s
  unfolding row_bytes masks_at
  row_part b h =
      rw (length-row_at, row-padded, bytes_of-joined, part_add, bytes-num 4 at s b (omega arith))
      (ap (λ (a : List ℕ). part at 4 s ++ a)
      (joined-tab (bytes 4) 4 (at + 4) width _ s (λ j k. bytes-num 4 (at + 4 + j * 4) s b (omega arith))))

-- ---- data and entries

pub datum_size_lem : (own : ℕ) (d : Datum) → T (datum_ok own d) → length (datum_bytes d) ≡ 60
unfolding datum_ok
datum_size_lem own d t = length-datum d (fits_le own 8 d.terms (search (both_l, both_r) depth 9))

pub entry_size_lem : (own : ℕ) (e : List ℕ) → T (terms_fit own entry_terms e) → length (entry_bytes e) ≡ 68
entry_size_lem own e t = length_entry e (fits_le own 16 e t)

-- a datum that stands at its place is read, and fits
pub datum_in_lem : (own : ℕ) (s : List ℕ) (i : ℕ) (d : Datum) → T (datum_ok own d) → At (datum_place i) (datum_bytes d) s
    → (datum_at s i ≡ d) × T (datum_fits own s i)
unfolding datum_ok datum_bytes datum_at datum_fits
datum_in_lem own s i d t h =
    let at = datum_place i in
    let a : T (leb d.left d.right) = search both_l in
    let b : T (ltb d.right end_limit) = search (both_l, both_r) depth 9 in
    let c : T (terms_fit own datum_terms d.terms) = search (both_l, both_r) depth 9 in
    let end = ltb→lt d.right end_limit b in
    let start = leb→le d.left d.right a in
    let lw = d.left / million in
    let rwh = d.right / million in
    let lm = d.left % million in
    let rm = d.right % million in
    let ts = row_bytes datum_terms d.terms in
    let few = fits_le own 8 d.terms c in
    let e : at + 8 + 8 ≡ at + 16 = omega arith in
    let g : at + 16 + 36 ≡ at + 52 = omega arith in
    let k : at + 52 + 4 ≡ at + 56 = omega arith in
    let from-right : At (at + 8) (bytes 8 rwh ++ (ts ++ (bytes 4 lm ++ bytes 4 rm))) s = at_then 8 at (bytes 8 lw) _ s (length-bytes 8 lw) h in
    let from_row : At (at + 16) (ts ++ (bytes 4 lm ++ bytes 4 rm)) s = rw e at (at_then 8 (at + 8) (bytes 8 rwh) _ s (length-bytes 8 rwh) from-right) in
    let parts : At (at + 52) (bytes 4 lm ++ bytes 4 rm) s = rw g at (at_then 36 (at + 16) ts _ s (length-row datum_terms d.terms few) from_row) in
    let last : At (at + 56) (bytes 4 rm) s = rw k at (at_then 4 (at + 52) (bytes 4 lm) (bytes 4 rm) s (length-bytes 4 lm) parts) in
    let row = at_first_lem (at + 16) ts _ s from_row in
    let left = num_at 8 at lw s (omega arith) (at_first_lem at (bytes 8 lw) _ s h) in
    let right = num_at 8 (at + 8) rwh s (omega arith) (at_first_lem (at + 8) (bytes 8 rwh) _ s from-right) in
    let low = num_at 4 (at + 52) lm s (omega arith) (at_first_lem (at + 52) (bytes 4 lm) (bytes 4 rm) s parts) in
    let high = num_at 4 (at + 56) rm s (omega arith) last in
    let low-in : T (ltb lm million) = lt→ltb lm million (millionths_split d.left) in
    let high-in : T (ltb rm million) = lt→ltb rm million (millionths_split d.right) in (
      rw (left, right, low, high, count-parts d.left, count-parts d.right, row_read own 8 (at + 16) d.terms s (omega arith) c row),
      rw (left, right, low, high, count-parts d.left, count-parts d.right) (search (both, row_in_lem own 8 (at + 16) d.terms s (omega arith) c row)),
    )

pub entry_in : (own : ℕ) (s : List ℕ) (i : ℕ) (e : List ℕ) → T (terms_fit own entry_terms e) → At (entry_place i) (entry_bytes e) s
    → (entry_at s i ≡ e) × T (entry_fits own s i)
unfolding entry_bytes entry_at entry_fits
entry_in own s i e t h = (row_read own 16 (entry_place i) e s (omega arith) t h, row_in_lem own 16 (entry_place i) e s (omega arith) t h)

-- a datum that fits: what is read of it, and its bytes
module _ (own : ℕ) (s : List ℕ) (i : ℕ) (t : T (datum_fits own s i)) where
  pub datum-row : T (row_fits own datum_terms (datum_place i + row_in) s)
  unfolding datum_fits
  datum-row = search (both_l, both_r) depth 9

  pub datum_out : T (datum_ok own (datum_at s i))
  unfolding datum_fits datum_ok datum_at
  datum_out = search (both, both_l, both_r, row_out own datum_terms (datum_place i + row_in) s datum-row) depth 9

  -- its millionths
  pub ends_split : BothSplit (ends_at s i)
  unfolding datum_fits ends_at
  ends_split =
      let low : T (ltb (num (datum_place i + 52) 4 s) million) = search both_l in
      let high : T (ltb (num (datum_place i + 56) 4 s) million) = search (both_l, both_r) depth 9 in
      (ltb→lt (num (datum_place i + 52) 4 s) million low, ltb→lt (num (datum_place i + 56) 4 s) million high)

  pub datum_part : Bytes s → datum_place i + 60 ≤ length s → datum_bytes (datum_at s i) ≡ part (datum_place i) 60 s
  unfolding datum_bytes datum_at ends_at
  datum_part b h =
      let at = datum_place i in
      let e : at + 8 + 8 ≡ at + 16 = omega arith in
      let g : at + 16 + 36 ≡ at + 52 = omega arith in
      let k : at + 52 + 4 ≡ at + 56 = omega arith in
      let x = num at 8 s in
      let y = num (at + 8) 8 s in
      let split = ends_split in
      rw (
        count-whole x (num (at + 52) 4 s) split.0,
        count-whole y (num (at + 56) 4 s) split.1,
        count_millionths x (num (at + 52) 4 s) split.0,
        count_millionths y (num (at + 56) 4 s) split.1,
        bytes-num 8 at s b (omega arith),
        bytes-num 8 (at + 8) s b (omega arith),
        row_part own 8 (at + 16) s datum-row b (omega arith),
        bytes-num 4 (at + 52) s b (omega arith),
        bytes-num 4 (at + 56) s b (omega arith),
      )
      (rw (part_add at 8 52 s, part_add (at + 8) 8 44 s, e, part_add (at + 16) 36 8 s, g, part_add (at + 52) 4 4 s, k))

-- ---- what the code tests of a datum's ends

-- 2^58 - 1 is the last end
pub last_end : (w p : ℕ) → p < million → (ltb w last_whole || (eqb w last_whole && eqb p 0)) ≡ ltb (count w p) end_limit
last_end w p a = go (dec_lt w last_whole) (ℕ_discrete w last_whole) (ℕ_discrete p 0)
  where
    go : Dec (w < last_whole) → Dec (w ≡ last_whole) → Dec (p ≡ 0) → (ltb w last_whole || (eqb w last_whole && eqb p 0)) ≡ ltb (count w p) end_limit
    go (yes i) e k = rw (lt-ltb w last_whole i, lt-ltb (count w p) end_limit (omega arith))
    go (no i) (yes e) (yes k) = rw (le-ltb w last_whole (omega arith), eq-eqb w last_whole e, eq-eqb p 0 k, lt-ltb (count w p) end_limit (omega arith))
    go (no i) (yes e) (no k) = rw (le-ltb w last_whole (omega arith), eq-eqb w last_whole e, ne_eqb p 0 k, le-ltb (count w p) end_limit (omega arith))
    go (no i) (no e) k = rw (le-ltb w last_whole (omega arith), ne_eqb w last_whole e, le-ltb (count w p) end_limit (omega arith))

module _ (own : ℕ) (s : List ℕ) (i : ℕ) (e : Ends) (p : e ≡ ends_at s i) where
  pub left-fails : million ≤ e.left.millionths → false ≡ datum_fits own s i
  unfolding datum_fits ends_at
  left-fails h = let k = rw p at h in rw (le-ltb (num (datum_place i + 52) 4 s) million k)

  pub right-fails : e.left.millionths < million → million ≤ e.right.millionths → false ≡ datum_fits own s i
  unfolding datum_fits ends_at
  right-fails g h =
      let j = rw p at g in
      let k = rw p at h in
      rw (lt-ltb (num (datum_place i + 52) 4 s) million j, le-ltb (num (datum_place i + 56) 4 s) million k)

  pub ends_fit : e.left.millionths < million → e.right.millionths < million
      → ((leb (count_of e.left) (count_of e.right) && ltb (count_of e.right) end_limit) && row_fits own datum_terms (datum_place i + row_in) s)
      ≡ datum_fits own s i
  unfolding datum_fits ends_at datum_at
  ends_fit g h =
      let j = rw p at g in
      let k = rw p at h in
      rw (lt-ltb (num (datum_place i + 52) 4 s) million j, lt-ltb (num (datum_place i + 56) 4 s) million k, and_assoc, p)

-- the whole microseconds tell, or both numbers do
module _ (e : Ends) (split : BothSplit e) where
  pub ordered_soon : (ltb e.left.whole e.right.whole && ltb e.right.whole last_whole) ≡ true
      → true ≡ leb (count_of e.left) (count_of e.right) && ltb (count_of e.right) end_limit
  ordered_soon t =
      let both_told = true_T (ltb e.left.whole e.right.whole && ltb e.right.whole last_whole) t in
      let g = ltb→lt e.left.whole e.right.whole (both_l (ltb e.left.whole e.right.whole) _ both_told) in
      let h = ltb→lt e.right.whole last_whole (both_r (ltb e.left.whole e.right.whole) _ both_told) in
      rw (le-leb (count_of e.left) (count_of e.right) (omega (arith, split.0)), lt-ltb (count_of e.right) end_limit (omega (arith, split.1)))

  pub ordered-both : (a b : Bool) → a ≡ ltb (count_of e.right) (count_of e.left) → b ≡ ltb (count_of e.right) end_limit
      → (not a && b) ≡ leb (count_of e.left) (count_of e.right) && ltb (count_of e.right) end_limit
  ordered-both a b p q = rw (p, q, not_precedes)

-- what the tests of a datum's ends tell
pub ruleset datum_tests = (left-fails, right-fails, ends_fit)
