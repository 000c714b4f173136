-- Moving data and entries between a state's bytes and arrays (`store`): the turns of its loops, and what the arrays hold of the bytes.
-- The idea: `Column` says that a loop has filled the front of an array, and `Written` that it has stored elements of one size one behind the
-- other; each has the laws `-none`, `-next` and `-done`. What stands in the arrays is then read off the equations that the contracts give.
-- No contract cites this file. Assumes nothing.
use Prim.Native.Nat.{ℕ, zero, suc, ◌+◌, ◌*◌, ◌-◌, ◌≤◌, ◌<◌}
use mathlib.Core.Path.{◌≡◌, refl, sym, ap, ◌∙◌}
use mathlib.Core.Bool.{Bool, true, false}
use mathlib.Core.List.{List, [], ◌∷◌, ◌++◌, append-nil, map, map-append}
use mathlib.Core.Logic.{inl, inr, ⊎_elim}
use native.Mathlib.Nat.{zero-add, suc-mul, eq-or-lt_of_le}
use native.Mathlib.Numerals.{add-one}
use native.Mathlib.Omega.{arith}
use native.Mathlib.Decide.{dec_lt}
use lib.Dec.{T, leb, leb→le, le→leb, eqb, eqb→eq, eqb_refl}
use lib.ListN.{length, get_or, take, drop, set, length-append, length-take, length-drop, length-set, length-replicate, get_or-append, take-append-drop}
use Rattle.std.specs.Prelude.{All}
use Rattle.std.proofs.lemmas.List.{take_more, get_or_past, get_or-take, length-take-le}
use lib.Seq.{take-append-le, drop_at, drop-drop, get_or-append-add, get_or-drop}
use Rattle.numbers.specs.Numbers.{num, bytes, put, tab, Bytes}
use Rattle.numbers.proofs.NumberLaws.{length-bytes, num-put-apart, length-put, put_then, put_front, length-tab, get_or-tab, put-append}
use Rattle.std.specs.List.{list_all, filter}
use Rattle.predicates.proofs.ListLaws.{all_keep, both, both_l, both_r, keep_all}
use Rattle.state.specs.Layout.{state_size, held_at, known_at, data_at, data_most, datum_size, datum_terms, entries_at, entries_most, entry_size, entry_terms, data_bytes, entries_bytes, datum_place, entry_place, held_count, entry_count, zeros, joined, datum_bytes, entry_bytes, masks_at, row_at, datum_at, entry_at, store_of, own_at, row_in}
use Rattle.state.specs.Form.{is_zero, data_fit, entries_fit, in_form, datum_ok, terms_fit}
use Rattle.state.proofs.LayoutLaws.{all-tab, At, num-drop, length-joined, at_joined, length-datum, length_entry}
use Rattle.state.proofs.PutLaws.{zero_behind, joined-last, put_swap, put_stands, drop-put}
use Rattle.state.proofs.StateLaws.{held_count_le, entry_count_le, form-datum, datum_at_ok, length-datum_at, entry_at_ok, length-entry_at, datum_stands, entry_stands}
use Rattle.state.specs.declared.holding.Held.{Held}
use Rattle.state.specs.code.Tables.{Table, table, entry_masks, table_from, TableFits, HeldFits, row_of, has_terms, entries_in, terms_of, datum_in, data_in, ends_at, datum_row, DataStand, DataInPlace, EntriesStand}
use Rattle.numbers.proofs.NumberLaws.{tab_suc, tab_cong, map-tab}
use Rattle.predicates.proofs.ListLaws.{keep_append}
use Rattle.state.proofs.RowLaws.{row-empty}
use Rattle.state.proofs.RowLaws.{row_full, table-room}
use Rattle.state.specs.Model.{Datum}
use Rattle.state.proofs.FormLaws.{length_filled, ends_split}

-- ---- a loop that fills the front of an array

-- the first i numbers of s are those of f; the others are as they were
pub record Column (f : ℕ → ℕ) (i : ℕ) (s₀ s : List ℕ) : Type 0 where
  pub long : length s ≡ length s₀
  pub stored : s ≡ put 0 (tab i f) s₀

pub column_none : (f : ℕ → ℕ) (s : List ℕ) → Column f 0 s s
unfolding tab put
column_none f s = record { long = refl; stored = refl }

pub column_next : (f : ℕ → ℕ) (i v : ℕ) (s₀ s : List ℕ) → v ≡ f i → Column f i s₀ s → Column f (i + 1) s₀ (set s i v)
unfolding tab put
column_next f i v s₀ s e w =
    let place : i ≡ 0 + i = omega arith in
    record { long = length-set s i v ∙ w.long; stored = rw (add-one, put-append i 0 (tab i f) (f i ∷ []) s₀ (length-tab i f), ← place, e, w.stored) }

pub column_done : (f : ℕ → ℕ) (n i : ℕ) (s₀ s : List ℕ) → i ≤ n → n ≤ i → n ≤ length s₀ → Column f i s₀ s → s ≡ tab n f ++ drop n s₀
column_done f n i s₀ s h k l w =
    let done : i ≡ n = omega arith in
    (rw done at w.stored) ∙ put_front n (tab n f) s₀ (length-tab n f) l

-- ---- a loop that stores elements of one size

-- the r elements xs stand in s from index at on; all else is as it was
pub record Written {A : Type 0} (f : A → List ℕ) (size at : ℕ) (xs : List A) (r : ℕ) (s₀ s : List ℕ) : Type 0 where
  pub counted : r ≡ length xs
  pub sized : length (joined f xs) ≡ r * size
  pub long : length s ≡ length s₀
  pub stored : s ≡ put at (joined f xs) s₀

module _ {A : Type 0} (f : A → List ℕ) where
  module _ (size at : ℕ) where
    pub written_none : (s : List ℕ) → Written f size at [] 0 s s
    unfolding joined put
    written_none s = record { counted = refl; sized = omega arith; long = refl; stored = refl }

    pub written_next : (xs : List A) (x : A) (r k : ℕ) (s₀ s u : List ℕ) → length (f x) ≡ size → k ≡ at + r * size → u ≡ put k (f x) s
        → Written f size at xs r s₀ s → Written f size at (xs ++ (x ∷ [])) (r + 1) s₀ u
    written_next xs x r k s₀ s u e p q w =
        record {
          counted = omega (arith, w.counted, length-append xs (x ∷ []));
          sized = rw (joined-last f xs x, add-one, suc-mul) (omega (arith, length-append (joined f xs) (f x), w.sized));
          long = ap length q ∙ length-put k (f x) s ∙ w.long;
          stored = rw (joined-last f xs x) (put_then (r * size) at k (joined f xs) (f x) s₀ s u w.sized p w.stored q);
        }

    -- an element that stood in its place needs no writing
    pub written_stands : (xs : List A) (x : A) (r k : ℕ) (s₀ s : List ℕ) → k ≡ at + r * size → put k (f x) s₀ ≡ s₀
        → Written f size at xs r s₀ s → s ≡ put k (f x) s
    written_stands xs x r k s₀ s p q w =
        let swap = put_swap at k (joined f xs) (f x) s₀ (omega (arith, w.sized)) in
        w.stored ∙ ap (λ (l : List ℕ). put at (joined f xs) l) (sym q) ∙ swap ∙ ap (λ (l : List ℕ). put k (f x) l) (sym w.stored)

-- ---- rows, read

pub length-masks : (width at : ℕ) (s : List ℕ) → length (masks_at width at s) ≡ width
unfolding masks_at
length-masks width at s = length-tab width (λ j. num (at + 4 + j * 4) 4 s)

-- ---- the rows that have terms, written

module _ {A : Type 0} (g : A → Bool) (r : ℕ → A) where
  pub kept_next_lem : (i : ℕ) → g (r i) ≡ true → filter g (tab (i + 1) r) ≡ filter g (tab i r) ++ (r i ∷ [])
  kept_next_lem i e = rw (tab_suc i r, keep_append g (tab i r) (r i ∷ []), e)

  pub kept_skip : (i : ℕ) → g (r i) ≡ false → filter g (tab (i + 1) r) ≡ filter g (tab i r)
  kept_skip i e = rw (tab_suc i r, keep_append g (tab i r) (r i ∷ []), e) (append-nil (filter g (tab i r)))

  -- fewer rows, no more kept
  pub kept_le : (n i : ℕ) → i ≤ n → length (filter g (tab i r)) ≤ length (filter g (tab n r))
  unfolding tab
  kept_le zero i h = let e : i ≡ 0 = omega arith in rw e (omega arith)
  kept_le (suc n) i h =
      let more = ap length (keep_append g (tab n r) (r n ∷ [])) ∙ length-append (filter g (tab n r)) (filter g (r n ∷ [])) in
      ⊎_elim (λ (e : i ≡ suc n). rw e (omega arith)) (λ (k : i < suc n). omega (arith, more, kept_le n i (omega arith))) (eq-or-lt_of_le h)

-- there is room for one more
pub kept-room : {A : Type 0} (g : A → Bool) (f : ℕ → A) (n i m r : ℕ) → i < n → g (f i) ≡ true → r ≡ length (filter g (tab i f))
    → length (filter g (tab n f)) ≤ m → r < m
kept-room g f n i m r h e p l =
    omega (arith, l, p, kept_le g f n (i + 1) (omega arith), ap length (kept_next_lem g f i e), length-append (filter g (tab i f)) (f i ∷ []))

length-row_le : (w i : ℕ) (counts masks : List ℕ) → get_or counts i 0 ≤ w → length (row_of w (table counts masks) i) ≤ w
unfolding row_of
length-row_le w i counts masks h = omega (arith, length-take (get_or counts i 0) (drop (i * w) masks))

-- a row of the table has terms, or it has been given up
module _ (w n i : ℕ) (counts masks : List ℕ) (t : TableFits w n (table counts masks)) (h : i < n) where
  row-live : 0 < get_or counts i 0 → has_terms (row_of w (table counts masks) i) ≡ true
  row-live k = row_full w i counts masks (λ e. omega arith) (table-room w n counts masks t i h)

  row_gone : get_or counts i 0 ≤ 0 → has_terms (row_of w (table counts masks) i) ≡ false
  row_gone k = row-empty w i counts masks (omega arith)

-- a turn of the loop that writes entries
module _ (n i : ℕ) (counts masks : List ℕ) (t : TableFits 16 n (table counts masks)) (h : i < n) (r : ℕ) (s₀ s : List ℕ)
    (w : Written entry_bytes 68 984 (entries_in i (table counts masks)) r s₀ s) where
  entries_next : (u : List ℕ) → 0 < get_or counts i 0
      → u ≡ put (entry_place r) (entry_bytes (row_of 16 (table counts masks) i)) s
      → Written entry_bytes 68 984 (entries_in (i + 1) (table counts masks)) (r + 1) s₀ u
  unfolding entries_in
  entries_next u k q =
      rw (kept_next_lem has_terms (row_of 16 (table counts masks)) i (row-live 16 n i counts masks t h k))
      (written_next entry_bytes 68 984 (entries_in i (table counts masks)) (row_of 16 (table counts masks) i) r (entry_place r) s₀ s u
      (length_entry (row_of 16 (table counts masks) i) (length-row_le 16 i counts masks (t.narrow i))) refl q w)

  pub entries_skip : get_or counts i 0 ≤ 0 → Written entry_bytes 68 984 (entries_in (i + 1) (table counts masks)) r s₀ s
  unfolding entries_in
  entries_skip k = rw (kept_skip has_terms (row_of 16 (table counts masks)) i (row_gone 16 n i counts masks t h k)) w

  pub entries-room : (m : ℕ) → 0 < get_or counts i 0 → length (entries_in n (table counts masks)) ≤ m → r < m
  unfolding entries_in
  entries-room m k l = kept-room has_terms (row_of entry_terms (table counts masks)) n i m r h (row-live 16 n i counts masks t h k) w.counted l

-- the data in rows, one list behind another, and in one row
pub data-append : (a b : List Held) → data_in (a ++ b) ≡ data_in a ++ data_in b
unfolding data_in
data-append a b = ap (λ (l : List Datum). filter (λ d. has_terms d.terms) l) (map-append datum_in a b) ∙ keep_append (λ d. has_terms d.terms) (map datum_in a) (map datum_in b)

pub data-live : (x : Held) → has_terms (terms_of x) ≡ true → data_in (x ∷ []) ≡ datum_in x ∷ []
unfolding data_in
data-live x e = rw e

pub data-gone : (x : Held) → has_terms (terms_of x) ≡ false → data_in (x ∷ []) ≡ []
unfolding data_in
data-gone x e = rw e

-- a turn of the loop that writes data
module _ (c : List Held) (i : ℕ) (d : Held) (h : i < length c) where
  data_more : data_in (take (i + 1) c) ≡ data_in (take i c) ++ data_in (get_or c i d ∷ [])
  data_more = ap data_in (take_more c i d h) ∙ data-append (take i c) (get_or c i d ∷ [])

  data_le : length (data_in (take (i + 1) c)) ≤ length (data_in c)
  data_le =
      let e : data_in c ≡ data_in (take (i + 1) c) ++ data_in (drop (i + 1) c) =
      ap data_in (sym (take-append-drop (i + 1) c)) ∙ data-append (take (i + 1) c) (drop (i + 1) c) in
      omega (arith, ap length e, length-append (data_in (take (i + 1) c)) (data_in (drop (i + 1) c)))

  module _ (r : ℕ) (s₀ s : List ℕ) (w : Written datum_bytes 60 24 (data_in (take i c)) r s₀ s) where
    pub data_skip : has_terms (terms_of (get_or c i d)) ≡ false → Written datum_bytes 60 24 (data_in (take (i + 1) c)) r s₀ s
    data_skip e = rw (data_more, data-gone (get_or c i d) e, append-nil) w

    module _ (live : has_terms (terms_of (get_or c i d)) ≡ true) where
      pub data_room : (m : ℕ) → length (data_in c) ≤ m → r < m
      data_room m l =
          let e : data_in (take (i + 1) c) ≡ data_in (take i c) ++ (datum_in (get_or c i d) ∷ []) = data_more ∙ ap (λ (l : List Datum). data_in (take i c) ++ l) (data-live (get_or c i d) live) in
          omega (arith, data_le, w.counted, ap length e, length-append (data_in (take i c)) (datum_in (get_or c i d) ∷ []))

      pub data_next : (u : List ℕ) → length (terms_of (get_or c i d)) ≤ 8 → u ≡ put (datum_place r) (datum_bytes (datum_in (get_or c i d))) s
          → Written datum_bytes 60 24 (data_in (take (i + 1) c)) (r + 1) s₀ u
      data_next u few q =
          rw (data_more, data-live (get_or c i d) live)
          (written_next datum_bytes 60 24 (data_in (take i c)) (datum_in (get_or c i d)) r (datum_place r) s₀ s u
          (length-datum (datum_in (get_or c i d)) few) refl q w)

      pub datum_stays : length (terms_of (get_or c i d)) ≤ 8 → i ≤ r → r ≤ i → put (datum_place i) (datum_bytes (datum_in (get_or c i d))) s₀ ≡ s₀
          → Written datum_bytes 60 24 (data_in (take (i + 1) c)) (r + 1) s₀ s
      datum_stays few k l q =
          let e : i ≡ r = omega arith in
          let x = datum_in (get_or c i d) in
          let stands : put (datum_place r) (datum_bytes x) s₀ ≡ s₀ = ap (λ (j : ℕ). put (datum_place j) (datum_bytes x) s₀) (sym e) ∙ q in
          data_next s few (written_stands datum_bytes 60 24 (data_in (take i c)) x r (datum_place r) s₀ s refl stands w)

-- ---- how many bytes the rows take

-- a datum of 60 bytes, an entry of 68
narrow_datum : Datum → Bool
narrow_datum d = leb (length d.terms) datum_terms

narrow_entry : List ℕ → Bool
narrow_entry p = leb (length p) entry_terms

-- each of fitting rows has at most 8 terms
pub length-terms : (r : Held) → HeldFits r → length (terms_of r) ≤ datum_terms
length-terms r f = omega (arith, length-take r.count r.terms, f.narrow)

all-narrow : (c : List Held) → All HeldFits c → T (list_all narrow_datum (map datum_in c))
unfolding narrow_datum
all-narrow [] t = tt
all-narrow (r ∷ c) t = both _ _ (le→leb _ datum_terms (length-terms r (t 0 r (omega arith)))) (all-narrow c (λ k d h. t (suc k) d (omega arith)))

pub length-data_in : (c : List Held) → All HeldFits c → length (data_in c) ≤ data_most → length (data_bytes (data_in c)) ≡ data_most * datum_size
unfolding data_bytes data_in narrow_datum
length-data_in c t h =
    length_filled datum_bytes datum_size data_most data_at narrow_datum (λ d k. length-datum d (leb→le (length d.terms) datum_terms k)) (data_in c)
    (all_keep narrow_datum (λ d. has_terms d.terms) (map datum_in c) (all-narrow c t)) h

pub length-entries_in : (n : ℕ) (t : Table) → TableFits entry_terms n t → length (entries_in n t) ≤ entries_most
    → length (entries_bytes (entries_in n t)) ≡ entries_most * entry_size
unfolding entries_bytes entries_in narrow_entry
length-entries_in n t f h =
    length_filled entry_bytes entry_size entries_most entries_at narrow_entry (λ e k. length_entry e (leb→le (length e) entry_terms k)) (entries_in n t)
    (all_keep narrow_entry has_terms (tab n (row_of entry_terms t))
    (all-tab narrow_entry n (row_of entry_terms t) (λ i k. le→leb _ entry_terms (length-row_le entry_terms i t.counts t.masks (f.narrow i))))) h

-- ---- what the arrays hold of the bytes

-- the part of an array that was filled, and the rest
pub column_front : (f : ℕ → ℕ) (n i : ℕ) (s₀ s : List ℕ) → s ≡ tab n f ++ drop n s₀ → i < n → get_or s i 0 ≡ f i
column_front f n i s₀ s e h =
    ap (λ l. get_or l i 0) e ∙ get_or-append (tab n f) (drop n s₀) 0 i (omega (arith, length-tab n f)) ∙ get_or-tab n i f 0 h

module _ (a : List ℕ) (n : ℕ) (s₀ s : List ℕ) (long : length a ≡ n) (e : s ≡ a ++ drop n s₀) where
  pub front_rest : (i : ℕ) → n ≤ i → get_or s i 0 ≡ get_or s₀ i 0
  front_rest i h =
      let place : i ≡ length a + (i - n) = omega arith in
      let back : n + (i - n) ≡ i = omega arith in
      ap (λ l. get_or l i 0) e ∙ ap (λ (k : ℕ). get_or (a ++ drop n s₀) k 0) place ∙ get_or-append-add a (drop n s₀) (i - n) 0
      ∙ get_or-drop n s₀ (i - n) 0 ∙ ap (λ (k : ℕ). get_or s₀ k 0) back

  length_front : n ≤ length s₀ → length s ≡ length s₀
  length_front h = ap length e ∙ rw (length-append, length-drop) (omega arith)

pub length_column : (f : ℕ → ℕ) (n : ℕ) (s₀ s : List ℕ) → s ≡ tab n f ++ drop n s₀ → n ≤ length s₀ → length s ≡ length s₀
length_column f n s₀ s = length_front (tab n f) n s₀ s (length-tab n f)

-- the masks of n rows, all of one width
module _ (width n : ℕ) (place : ℕ → ℕ) (s : List ℕ) where
  masks-wide : T (list_all (λ l. eqb (length l) width) (tab n (λ i. masks_at width (place i) s)))
  masks-wide =
      all-tab (λ l. eqb (length l) width) n (λ i. masks_at width (place i) s) (λ i h. rw (length-masks width (place i) s) (eqb_refl width))

  length-rows : length (joined (λ l. l) (tab n (λ i. masks_at width (place i) s))) ≡ n * width
  length-rows = length-joined (λ l. l) (λ l. eqb (length l) width) width (λ l t. eqb→eq (length l) width t) _ masks-wide ∙ rw length-tab

  -- row i of an array that begins with them
  rows-front : (c rest m : List ℕ) → m ≡ joined (λ l. l) (tab n (λ i. masks_at width (place i) s)) ++ rest → (i : ℕ) → i < n → get_or c i 0 ≤ width
      → row_of width (table c m) i ≡ take (get_or c i 0) (masks_at width (place i) s)
  unfolding row_of
  rows-front c rest m q i h k =
      let f : ℕ → List ℕ = λ k. masks_at width (place k) s in
      let there : At (i * width) (get_or (tab n f) i []) m =
      rw zero-add at (at_joined (λ l. l) (λ l. eqb (length l) width) width (λ l t. eqb→eq (length l) width t) [] 0 i (tab n f) m masks-wide
      (omega (arith, length-tab n f)) (rest, q)) in
      rw (there.1, get_or-tab n i f [] h) (take-append-le (get_or c i 0) (f i) there.0 (omega (arith, length-masks width (place i) s)))

-- n rows that were read, of at most `width` terms
module _ (width n : ℕ) (place : ℕ → ℕ) (s c₀ rest c m : List ℕ) (p : c ≡ tab n (λ i. num (place i) 4 s) ++ drop n c₀)
    (q : m ≡ joined (λ l. l) (tab n (λ i. masks_at width (place i) s)) ++ rest) (few : (i : ℕ) → i < n → num (place i) 4 s ≤ width) where
  rows-read : (i : ℕ) → i < n → row_of width (table c m) i ≡ row_at width (place i) s
  unfolding row_at
  rows-read i h =
      let count : get_or c i 0 ≡ num (place i) 4 s = column_front (λ k. num (place k) 4 s) n i c₀ c p h in
      rows-front width n place s c rest m q i h (omega (arith, few i h)) ∙ rw count

  -- the table that was lent is one still
  table-read : (k : ℕ) (m₀ : List ℕ) → n ≤ k → length m ≡ length m₀ → TableFits width k (table c₀ m₀) → TableFits width k (table c m)
  table-read k m₀ h e t =
      record {
        counted = omega (arith, t.counted, length_column (λ i. num (place i) 4 s) n c₀ c p (omega (arith, t.counted)));
        long = omega (arith, t.long);
        narrow = λ i. small i (dec_lt i n);
      }
    where
      small : (i : ℕ) → Dec (i < n) → get_or c i 0 ≤ width
      small i (yes l) = omega (arith, column_front (λ j. num (place j) 4 s) n i c₀ c p l, few i l)
      small i (no l) = omega (arith, front_rest (tab n (λ j. num (place j) 4 s)) n c₀ c (length-tab n (λ j. num (place j) 4 s)) p i (omega arith), t.narrow i)

-- ---- entries whose terms stand in the bytes, and those behind them

pub length-entry_masks : (n : ℕ) (s : List ℕ) → length (entry_masks n s) ≡ n * 16
unfolding entry_masks
length-entry_masks n s = length-rows 16 n entry_place s

-- a row's masks, where nothing has changed from it on
masks-apart : (width at : ℕ) (s u : List ℕ) → drop at u ≡ drop at s → masks_at width at u ≡ masks_at width at s
unfolding masks_at
masks-apart width at s u e =
    tab_cong width (λ j. num (at + 4 + j * 4) 4 u) (λ j. num (at + 4 + j * 4) 4 s)
    (λ j l. let p : at + 4 + j * 4 ≡ at + (4 + j * 4) = omega arith in rw (p, ← (num-drop 4 at (4 + j * 4) u), e, num-drop 4 at (4 + j * 4) s))

entry_masks-apart : (n : ℕ) (s u : List ℕ) → ((at : ℕ) → entries_at ≤ at → drop at u ≡ drop at s) → entry_masks n u ≡ entry_masks n s
unfolding entry_masks
entry_masks-apart n s u e =
    ap (λ (l : List (List ℕ)). joined (λ p. p) l)
    (tab_cong n (λ i. masks_at 16 (entry_place i) u) (λ i. masks_at 16 (entry_place i) s) (λ i l. masks-apart 16 (entry_place i) s u (e (entry_place i) (omega arith))))

module _ (first i : ℕ) (s counts masks : List ℕ) where
  pub row-front : i < first → get_or counts i 0 ≤ 16 → row_of 16 (table_from first s counts masks) i ≡ take (get_or counts i 0) (masks_at 16 (entry_place i) s)
  unfolding entry_masks
  row-front h k = rows-front 16 first entry_place s counts masks (entry_masks first s ++ masks) refl i h k

  -- a row behind them, as the part of the array that is lent
  pub row-behind : first ≤ i
      → take ((i - first) * 16 + get_or counts i 0 - (i - first) * 16) (drop ((i - first) * 16) masks) ≡ row_of 16 (table_from first s counts masks) i
  unfolding row_of
  row-behind h =
      let from = (i - first) * 16 in
      let count : from + get_or counts i 0 - from ≡ get_or counts i 0 = omega arith in
      let place : i * 16 ≡ first * 16 + from = omega arith in
      let front : drop (first * 16) (entry_masks first s ++ masks) ≡ masks = drop_at (entry_masks first s) masks (first * 16) (length-entry_masks first s) in
      rw (count, place, ← (drop-drop from (first * 16) (entry_masks first s ++ masks)), front)

  pub room-behind : (n : ℕ) → TableFits 16 n (table_from first s counts masks) → i < n → first ≤ i → (i - first) * 16 + get_or counts i 0 ≤ length masks
  room-behind n t h k =
      omega (arith, table-room 16 n counts (entry_masks first s ++ masks) t i h, length-append (entry_masks first s) masks, length-entry_masks first s)

  pub length-behind_le : (n : ℕ) → TableFits 16 n (table_from first s counts masks) → first ≤ i
      → length (take ((i - first) * 16 + get_or counts i 0 - (i - first) * 16) (drop ((i - first) * 16) masks)) ≤ 16
  length-behind_le n t k = rw (row-behind k) (length-row_le 16 i counts (entry_masks first s ++ masks) (t.narrow i))

-- a turn of the loop that writes entries, of which the first stand in the bytes: the entry is stored from the array, moved, or left where it stands
module _ (first n i : ℕ) (s₀ counts masks : List ℕ) (t : TableFits 16 n (table_from first s₀ counts masks)) (h : i < n) (r : ℕ) (s : List ℕ)
    (w : Written entry_bytes 68 984 (entries_in i (table_from first s₀ counts masks)) r s₀ s) (k : 0 < get_or counts i 0) where
  pub entry_stored : (u : List ℕ) → first ≤ i
      → u ≡ put (entry_place r) (entry_bytes (take ((i - first) * 16 + get_or counts i 0 - (i - first) * 16) (drop ((i - first) * 16) masks))) s
      → Written entry_bytes 68 984 (entries_in (i + 1) (table_from first s₀ counts masks)) (r + 1) s₀ u
  entry_stored u l q = entries_next n i counts (entry_masks first s₀ ++ masks) t h r s₀ s w u k (rw (row-behind first i s₀ counts masks l) at q)

  pub entry_moved : (u : List ℕ) → i < first → r ≤ i → u ≡ put (entry_place r) (entry_bytes (take (get_or counts i 0) (masks_at 16 (entry_place i) s))) s
      → Written entry_bytes 68 984 (entries_in (i + 1) (table_from first s₀ counts masks)) (r + 1) s₀ u
  entry_moved u l m q =
      let es = joined entry_bytes (entries_in i (table_from first s₀ counts masks)) in
      let same : masks_at 16 (entry_place i) s ≡ masks_at 16 (entry_place i) s₀ =
      masks-apart 16 (entry_place i) s₀ s
      (ap (λ (x : List ℕ). drop (entry_place i) x) w.stored ∙ drop-put (entry_place i) 984 es s₀ (omega (arith, w.sized))) in
      entries_next n i counts (entry_masks first s₀ ++ masks) t h r s₀ s w u k
      (q ∙ ap (λ (e : List ℕ). put (entry_place r) (entry_bytes e) s) (rw same (sym (row-front first i s₀ counts masks l (t.narrow i)))))

  pub entry_stays : i ≤ r → r ≤ i → put (entry_place i) (entry_bytes (row_of 16 (table_from first s₀ counts masks) i)) s₀ ≡ s₀
      → Written entry_bytes 68 984 (entries_in (i + 1) (table_from first s₀ counts masks)) (r + 1) s₀ s
  entry_stays l m q =
      let e : i ≡ r = omega arith in
      let row = row_of 16 (table_from first s₀ counts masks) i in
      let stands : put (entry_place r) (entry_bytes row) s₀ ≡ s₀ = ap (λ (j : ℕ). put (entry_place j) (entry_bytes row) s₀) (sym e) ∙ q in
      entries_next n i counts (entry_masks first s₀ ++ masks) t h r s₀ s w s k
      (written_stands entry_bytes 68 984 (entries_in i (table_from first s₀ counts masks)) row r (entry_place r) s₀ s refl stands w)

-- ---- the counts of the first n rows, lent alone

module _ (w n : ℕ) (counts masks : List ℕ) where
  pub table-front : TableFits w n (table counts masks) → TableFits w n (table (take n counts) masks)
  table-front t =
      record { counted = omega (arith, t.counted, length-take-le n counts t.counted); long = t.long; narrow = λ i. go i (dec_lt i n) }
    where
      go : (i : ℕ) → Dec (i < n) → get_or (take n counts) i 0 ≤ w
      go i (yes h) = rw (get_or-take n counts i 0 h) (t.narrow i)
      go i (no h) = rw (get_or_past (take n counts) i 0 (omega (arith, length-take n counts))) (omega arith)

pub entries-front : (n : ℕ) (counts masks : List ℕ) → entries_in n (table (take n counts) masks) ≡ entries_in n (table counts masks)
unfolding entries_in row_of
entries-front n counts masks =
    ap (λ (l : List (List ℕ)). filter has_terms l)
    (tab_cong n (row_of entry_terms (table (take n counts) masks)) (row_of entry_terms (table counts masks)) (λ i h. rw (get_or-take n counts i 0 h)))

-- ---- fresh arrays

zero_at : (n i : ℕ) → get_or (zeros n) i 0 ≡ 0
zero_at zero i = refl
zero_at (suc n) zero = refl
zero_at (suc n) (suc i) = zero_at n i

length-zeros : (n : ℕ) → length (zeros n) ≡ n
length-zeros n = length-replicate n 0

pub table-fresh : (w n j k : ℕ) → n ≤ j → n * w ≤ k → TableFits w n (table (zeros j) (zeros k))
table-fresh w n j k g h =
    record { counted = omega (arith, length-zeros j); long = omega (arith, length-zeros k); narrow = λ i. omega (arith, zero_at j i) }

-- a table of whose rows the first have their terms in a state's bytes, and nothing is known of any yet
pub table_awaiting : (first n j : ℕ) (s masks : List ℕ) → n ≤ j → n * 16 ≤ first * 16 + length masks → TableFits 16 n (table_from first s (zeros j) masks)
table_awaiting first n j s masks g h =
    let t = table-fresh 16 n j (n * 16) g (omega arith) in
    record { counted = t.counted; long = omega (arith, length-append (entry_masks first s) masks, length-entry_masks first s); narrow = t.narrow }

-- ---- a state in form

-- the places that are not in use are zero
module _ (s : List ℕ) (t : T (in_form s)) where
  pub data_rest : (n : ℕ) → n ≡ held_count s → (n ≤ data_most) × T (is_zero (datum_place n) (datum_place data_most) s)
  unfolding in_form data_fit
  data_rest n e =
      let zero : T (is_zero (datum_place (held_count s)) (datum_place data_most) s) = search (both_l, both_r) depth 9 in
      rw e (held_count_le s t, zero)

  entries-rest : (n : ℕ) → n ≡ entry_count s → (n ≤ entries_most) × T (is_zero (entry_place n) (entry_place entries_most) s)
  unfolding in_form entries_fit
  entries-rest n e =
      let zero : T (is_zero (entry_place (entry_count s)) (entry_place entries_most) s) = search (both_l, both_r) depth 9 in
      rw e (entry_count_le s t, zero)

  entry_few : (i : ℕ) → i < entry_count s → num (entry_place i) 4 s ≤ 16
  unfolding terms_fit
  entry_few i k =
      let ok = entry_at_ok s t i k in
      omega (arith, leb→le (length (entry_at s i)) 16 (search (both_l, both_r) depth 9), length-entry_at s t i k)

  -- data that are as the bytes have them stand in their places
  pub data_stand : Bytes s → state_size ≤ length s → (c : List Held) → DataStand s c → (n : ℕ) → n ≡ held_count s → DataInPlace n s c
  data_stand b l c d n e i x h j f =
      let k : i < held_count s = omega arith in
      rw (d i x k j f) (put_stands (datum_place i) (datum_bytes (datum_at s i)) s (datum_stands s t b l i k))

  -- when data have been written in front of the entries, their places are as they were
  module _ (c : List Held) (u : List ℕ) (f : All HeldFits c) (l : length (data_in c) ≤ data_most)
      (e : u ≡ put held_at (bytes 4 (length (data_in c))) (put data_at (data_bytes (data_in c)) s)) where
    behind_stays : (at : ℕ) → entries_at ≤ at → drop at u ≡ drop at s
    behind_stays at k =
        ap (λ (x : List ℕ). drop at x) e
        ∙ drop-put at held_at (bytes 4 (length (data_in c))) (put data_at (data_bytes (data_in c)) s) (omega (arith, length-bytes 4 (length (data_in c))))
        ∙ drop-put at data_at (data_bytes (data_in c)) s (omega (arith, length-data_in c f l))

    known_stays : entry_count u ≡ entry_count s
    known_stays =
        ap (λ (x : List ℕ). num known_at 4 x) e
        ∙ num-put-apart 4 held_at known_at (bytes 4 (length (data_in c))) (put data_at (data_bytes (data_in c)) s) (inr (omega (arith, length-bytes 4 (length (data_in c)))))
        ∙ num-put-apart 4 data_at known_at (data_bytes (data_in c)) s (inl (omega arith))

    module _ (n : ℕ) (a : n ≡ entry_count u) where
      pub rest_stays : (n ≤ entries_most) × T (is_zero (entry_place n) (entry_place entries_most) u)
      rest_stays =
          let rest = entries-rest n (a ∙ known_stays) in
          (rest.0, rw (zero_behind (entry_place n) (entry_place entries_most) s u (omega (arith, rest.0)) (behind_stays (entry_place n) (omega arith))) rest.1)

      pub table_stays : (counts masks : List ℕ) → table_from n u counts masks ≡ table_from (entry_count s) s counts masks
      table_stays counts masks =
          ap (λ (l : List ℕ). table counts (l ++ masks)) (entry_masks-apart n s u behind_stays ∙ ap (λ (k : ℕ). entry_masks k s) (a ∙ known_stays))

      -- entries that are as the bytes have them stand in their places
      pub entries_stand : Bytes s → state_size ≤ length s → (counts masks : List ℕ) → EntriesStand s counts
          → (i : ℕ) → i < n → (get_or counts i 0 ≡ 0 → ⊥) → put (entry_place i) (entry_bytes (row_of entry_terms (table_from n u counts masks) i)) u ≡ u
      unfolding entry_at row_at
      entries_stand b long counts masks d i k g =
          let here : i < entry_count s = omega (arith, known_stays) in
          let row : row_of entry_terms (table_from n u counts masks) i ≡ entry_at s i =
          ap (λ (x : Table). row_of entry_terms x i) (table_stays counts masks)
          ∙ row-front (entry_count s) i s counts masks here (omega (arith, d i here g, entry_few i here))
          ∙ ap (λ (m : ℕ). take m (masks_at 16 (entry_place i) s)) (d i here g) in
          let stands = entry_stands s t b long i here in
          rw row (put_stands (entry_place i) (entry_bytes (entry_at s i)) u (stands.0, behind_stays (entry_place i) (omega arith) ∙ stands.1))

-- a predicate that fits has terms
fits-some : (own width : ℕ) (p : List ℕ) → T (terms_fit own width p) → T (has_terms p)
unfolding terms_fit has_terms
fits-some own width [] t = t
fits-some own width (x ∷ p) t = tt

-- the counts of the entries have been read; their terms stand in the bytes, with room for more behind them
module _ (n : ℕ) (s : List ℕ) (t : T (in_form s)) (a : n ≡ entry_count s) (c₀ c m : List ℕ) (p : c ≡ tab n (λ i. num (entry_place i) 4 s) ++ drop n c₀) where
  entries-few : (i : ℕ) → i < n → num (entry_place i) 4 s ≤ 16
  entries-few i h = entry_few s t i (omega arith)

  -- each row is an entry of the state
  pub row_standing : (i : ℕ) → i < n → row_of 16 (table_from n s c m) i ≡ entry_at s i
  unfolding entry_masks entry_at
  row_standing = rows-read 16 n entry_place s c₀ m c (entry_masks n s ++ m) p refl entries-few

  pub entries_standing : entries_in n (table_from n s c m) ≡ (store_of s).entries
  unfolding entries_in store_of
  entries_standing =
      let read : tab n (row_of 16 (table_from n s c m)) ≡ tab n (entry_at s) = tab_cong n (row_of 16 (table_from n s c m)) (entry_at s) row_standing in
      rw (read, a)
      (keep_all has_terms (tab (entry_count s) (entry_at s)) (all-tab has_terms (entry_count s) (entry_at s) (λ i h. fits-some (num own_at 4 s) entry_terms (entry_at s i) (entry_at_ok s t i h))))

  pub table_standing : (k : ℕ) → n ≤ k → TableFits 16 k (table_from n s c₀ m) → TableFits 16 k (table_from n s c m)
  unfolding entry_masks
  table_standing k h f = table-read 16 n entry_place s c₀ m c (entry_masks n s ++ m) p refl entries-few k (entry_masks n s ++ m) h refl f

-- the data of a state in form, read into rows: each fits, and none has been given up
module _ (s : List ℕ) (t : T (in_form s)) where
  row_standing_lem : (i : ℕ) → datum_in (datum_row s i) ≡ datum_at s i
  unfolding datum_row datum_at ends_at row_at
  row_standing_lem i = refl

  data_few : (i : ℕ) → i < held_count s → num (datum_place i + row_in) 4 s ≤ 8
  unfolding datum_ok terms_fit
  data_few i k =
      let ok = datum_at_ok s t i k in
      omega (arith, leb→le (length (datum_at s i).terms) 8 (search (both_l, both_r) depth 9), length-datum_at s t i k)

  pub row-fits : (i : ℕ) → i < held_count s → HeldFits (datum_row s i)
  unfolding datum_row
  row-fits i h = record { narrow = data_few i h; split = ends_split (num own_at 4 s) s i (form-datum s t i h) }

  pub rows-fit : (n : ℕ) → n ≤ held_count s → All HeldFits (tab n (datum_row s))
  rows-fit n h k d l =
      let e : k < n = omega (arith, length-tab n (datum_row s)) in
      rw (get_or-tab n k (datum_row s) d e) (row-fits k (omega arith))

  -- the rows are the held data
  pub data_rows : map datum_in (tab (held_count s) (datum_row s)) ≡ (store_of s).held
  unfolding store_of
  data_rows = map-tab datum_in (held_count s) (datum_row s) ∙ tab_cong (held_count s) (λ i. datum_in (datum_row s i)) (datum_at s) (λ i h. row_standing_lem i)

  pub data_standing : DataStand s (tab (held_count s) (datum_row s))
  data_standing i x h j f = ap datum_in (get_or-tab (held_count s) i (datum_row s) x h) ∙ row_standing_lem i

  pub data_form : data_in (tab (held_count s) (datum_row s)) ≡ (store_of s).held
  unfolding data_in store_of datum_ok
  data_form =
      let some-terms : (i : ℕ) → i < held_count s → T (has_terms (datum_at s i).terms) =
      λ i h. let ok = datum_at_ok s t i h in fits-some (num own_at 4 s) datum_terms (datum_at s i).terms (search (both_l, both_r) depth 9) in
      rw data_rows (keep_all (λ d. has_terms d.terms) (tab (held_count s) (datum_at s)) (all-tab (λ d. has_terms d.terms) (held_count s) (datum_at s) some-terms))
