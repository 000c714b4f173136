-- Definitions that serve the code alone: no statement of document 01 cites this file.
-- Entries in flat arrays and data in rows, as calls work on them: entry i has its count of terms at i and its terms from i * width on.
-- A row without terms has been given up; in form no predicate is without terms. Assumes nothing: these are definitions.
use Rattle.std.specs.Prelude.{ℕ, ◌+◌, ◌*◌, ◌≤◌, ◌<◌, ◌≡◌, Bool, true, false, List, [], ◌∷◌, ◌++◌, length, get_or, take, drop, map}
use Rattle.numbers.specs.Numbers.{num, bytes, put, tab}
use Rattle.std.specs.List.{filter}
use Rattle.state.specs.Model.{Datum, datum, Store}
use Rattle.state.specs.Layout.{data_most, entries_most, datum_terms, entry_terms, datum_place, entry_place, zeros}
use Rattle.state.specs.Layout.{right_in, row_in, left_millionths_in, right_millionths_in, masks_at, datum_bytes, joined}
use Rattle.state.specs.Layout.{held_count, entry_count, datum_at}
use Rattle.state.specs.declared.holding.Held.{Held}
use Rattle.ends.specs.declared.End.{End}
use Rattle.ends.specs.declared.Ends.{Ends}
use Rattle.ends.specs.Ends.{count_of, BothSplit}

-- the rows of data and entries
abbrev pub rows_most : ℕ
rows_most = data_most + entries_most

-- predicates in two arrays: row i has its count of terms at i and its terms from i * width on
pub record Table : Type 0 where
  pub counts : List ℕ
  pub masks : List ℕ

abbrev pub table : List ℕ → List ℕ → Table
table counts masks = record { counts = counts; masks = masks }

-- the masks of the first n rows of entries in a state's bytes, used or not
unfoldable pub entry_masks : ℕ → List ℕ → List ℕ
entry_masks n s = joined (λ p. p) (tab n (λ i. masks_at entry_terms (entry_place i) s))

-- entries as a receipt works on them: the rows below `first` have their terms in the state's bytes s, those from there on in an array
abbrev pub table_from : ℕ → List ℕ → List ℕ → List ℕ → Table
table_from first s counts masks = table counts (entry_masks first s ++ masks)

-- ---- what fits

-- the arrays have n rows of the width
pub record TableFits (width n : ℕ) (t : Table) : Type 0 where
  pub counted : n ≤ length t.counts
  pub long : n * width ≤ length t.masks
  pub narrow : (i : ℕ) → get_or t.counts i 0 ≤ width

-- a row has no more terms than places, and the millionths of its ends are less than a microsecond
pub record HeldFits (r : Held) : Type 0 where
  pub narrow : r.count ≤ datum_terms
  pub split : BothSplit r.ends

-- ---- what the arrays hold

-- the terms of row i
unfoldable pub row_of : ℕ → Table → ℕ → List ℕ
row_of width t i = take (get_or t.counts i 0) (drop (i * width) t.masks)

-- the predicate has terms
unfoldable pub has_terms : List ℕ → Bool
has_terms [] = false
has_terms (t ∷ p) = true

-- the entries in n rows
unfoldable pub entries_in : ℕ → Table → List (List ℕ)
entries_in n t = filter has_terms (tab n (row_of entry_terms t))

-- a datum whose ends travel as one struct
abbrev pub datum_of : Ends → List ℕ → Datum
datum_of e terms = datum (count_of e.left) (count_of e.right) terms

-- the terms of a row
abbrev pub terms_of : Held → List ℕ
terms_of r = take r.count r.terms

-- the datum in a row, given up or not
abbrev pub datum_in : Held → Datum
datum_in r = datum_of r.ends (terms_of r)

-- the data in rows
unfoldable pub data_in : List Held → List Datum
data_in c = filter (λ d. has_terms d.terms) (map datum_in c)

-- what rows of data and n rows of entries hold
unfoldable pub store_in : List Held → ℕ → Table → Store
store_in c n t = record { held = data_in c; entries = entries_in n t }

-- an end for a row without a datum
abbrev pub no_end : End
no_end = record { whole = 0; millionths = 0 }

-- a row without terms
abbrev pub no_row : Held
no_row = record { ends = record { left = no_end; right = no_end }; count = 0; terms = zeros datum_terms }

-- ---- ends in a state's bytes

-- the ends of datum i, each as its two numbers
unfoldable pub ends_at : List ℕ → ℕ → Ends
ends_at s i =
    record {
      left = record { whole = num (datum_place i) 8 s; millionths = num (datum_place i + left_millionths_in) 4 s };
      right = record { whole = num (datum_place i + right_in) 8 s; millionths = num (datum_place i + right_millionths_in) 4 s };
    }

-- datum i as a row
unfoldable pub datum_row : List ℕ → ℕ → Held
datum_row s i =
    record { ends = ends_at s i; count = num (datum_place i + row_in) 4 s; terms = masks_at datum_terms (datum_place i + row_in) s }

-- the bytes with other ends in place i
unfoldable pub with_ends : ℕ → Ends → List ℕ → List ℕ
with_ends i e s =
    put (datum_place i + right_millionths_in) (bytes 4 e.right.millionths)
    (put (datum_place i + left_millionths_in) (bytes 4 e.left.millionths)
    (put (datum_place i + right_in) (bytes 8 e.right.whole) (put (datum_place i) (bytes 8 e.left.whole) s)))

-- ---- rows that came from a state's bytes: each has been given up or is as the bytes have it

abbrev pub DataStand : List ℕ → List Held → Type 0
DataStand s c =
    (i : ℕ) (d : Held) → i < held_count s → i < length c → ((get_or c i d).count ≡ 0 → ⊥) → datum_in (get_or c i d) ≡ datum_at s i

abbrev pub EntriesStand : List ℕ → List ℕ → Type 0
EntriesStand s counts = (i : ℕ) → i < entry_count s → (get_or counts i 0 ≡ 0 → ⊥) → get_or counts i 0 ≡ num (entry_place i) 4 s

-- of the first n rows each has been given up or stands in its place
abbrev pub DataInPlace : ℕ → List ℕ → List Held → Type 0
DataInPlace n s c =
    (i : ℕ) (d : Held) → i < n → i < length c → ((get_or c i d).count ≡ 0 → ⊥)
    → put (datum_place i) (datum_bytes (datum_in (get_or c i d))) s ≡ s
