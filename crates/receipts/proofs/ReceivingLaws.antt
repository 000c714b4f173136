-- What `settle` leaves in rows and counts, lent as far as they are in use. No contract cites this file. Assumes nothing.
use Prim.Native.Nat.{ℕ, ◌≤◌, ◌<◌}
use mathlib.Core.Path.{◌≡◌, refl, ap, ◌∙◌}
use mathlib.Core.List.{List, ◌++◌}
use native.Mathlib.Omega.{arith}
use native.Mathlib.Decide.{dec_lt}
use lib.ListN.{length, get_or, take, drop, length-append, length-drop}
use lib.Seq.{length-take-le, take_at}
use Rattle.std.proofs.lemmas.List.{get_or-take, get_or_past, length-take}
use Rattle.numbers.specs.Numbers.{num, tab}
use Rattle.numbers.proofs.NumberLaws.{length-tab}
use Rattle.state.specs.Layout.{held_count, entry_place}
use Rattle.state.specs.declared.holding.Held.{Held}
use Rattle.state.specs.code.Tables.{table_from, entry_masks, TableFits, datum_in, datum_row, store_in, entries_in, DataStand, EntriesStand}
use Rattle.state.proofs.StoreLaws.{table-front, entries-front}
use Rattle.settling.specs.code.Rows.{DataLeft}

-- the rows that were read, at the front of an array
module _ (s : List ℕ) (h : ℕ) (fresh rows : List Held) (e : h ≡ held_count s) (l : h ≤ length fresh) (p : rows ≡ tab (length (take h fresh)) (datum_row s)) where
  rows-read : rows ≡ tab h (datum_row s)
  rows-read = rw (length-take-le h fresh l) at p

  pub length-read : length (rows ++ drop h fresh) ≡ length fresh
  length-read = omega (arith, ap length rows-read, length-tab h (datum_row s), length-append rows (drop h fresh), length-drop h fresh)

  pub rows_front : take h (rows ++ drop h fresh) ≡ tab (held_count s) (datum_row s)
  rows_front = take_at rows (drop h fresh) h (ap length rows-read ∙ length-tab h (datum_row s)) ∙ rows-read ∙ ap (λ (n : ℕ). tab n (datum_row s)) e

pub few_taken : (h n : ℕ) (l : List Held) → h ≤ n → length (take h l) ≤ n
few_taken h n l e = omega (arith, length-take h l)

-- rows that are left stand where they stood
pub data_front : (s : List ℕ) (old rows : List Held) (r : ℕ) → length old ≡ held_count s → DataLeft old rows → DataStand s old → DataStand s (take r rows)
data_front s old rows r e left stand i d h k f =
    let same : get_or (take r rows) i d ≡ get_or rows i d = get_or-take r rows i d (omega (arith, k, length-take r rows)) in
    let kept : get_or rows i d ≡ get_or old i d = left i d (omega (arith, h, e)) (λ z. f (ap (λ x. x.count) same ∙ z)) in
    ap datum_in (same ∙ kept) ∙ stand i d h (omega (arith, h, e)) (λ z. f (ap (λ x. x.count) (same ∙ kept) ∙ z))

pub entries_stand_front : (s counts : List ℕ) (k : ℕ) → k ≤ length counts → EntriesStand s counts → EntriesStand s (take k counts)
entries_stand_front s counts k l stand i h f = go (dec_lt i k)
  where
    go : Dec (i < k) → get_or (take k counts) i 0 ≡ num (entry_place i) 4 s
    go (yes n) = let same = get_or-take k counts i 0 n in same ∙ stand i h (λ z. f (same ∙ z))
    go (no n) = absurd (f (get_or_past (take k counts) i 0 (omega (arith, length-take-le k counts l))))

-- a table whose counts are lent as far as they are in use
module _ (k first : ℕ) (s counts masks : List ℕ) (fits : TableFits 16 k (table_from first s counts masks)) where
  used : length (take k counts) ≡ k
  used = length-take-le k counts fits.counted

  pub table_lent : TableFits 16 (length (take k counts)) (table_from first s (take k counts) masks)
  table_lent = rw used (table-front 16 k counts (entry_masks first s ++ masks) fits)

  pub entries_lent : entries_in (length (take k counts)) (table_from first s (take k counts) masks) ≡ entries_in k (table_from first s counts masks)
  entries_lent = rw used (entries-front k counts (entry_masks first s ++ masks))

  pub store_lent : (c : List Held) → store_in c (length (take k counts)) (table_from first s (take k counts) masks) ≡ store_in c k (table_from first s counts masks)
  unfolding store_in
  store_lent c = rw entries_lent refl
