-- Entries whose terms stand in the state's bytes, and behind them those whose terms stand in an array: what a row is in either, what is put into the
-- array, and the marks of a state in form.
-- The idea: both together are one array, `entry_masks first s ++ masks`, and `TableLaws` holds of it as of any other; here is where its places lie.
-- No contract cites this file. Assumes nothing.
use Prim.Native.Nat.{ℕ, suc, ◌+◌, ◌*◌, ◌-◌, ◌≤◌, ◌<◌}
use mathlib.Core.Path.{◌≡◌, refl, sym, ap, ◌∙◌}
use mathlib.Core.List.{List, [], ◌∷◌, ◌++◌}
use native.Mathlib.Nat.{zero-add, suc-add}
use native.Mathlib.Omega.{arith}
use lib.Dec.{T, eqb, eqb→eq, eqb_refl, ltb, ltb→lt}
use lib.ListN.{length, get_or, take, drop, set, length-append, take-append-drop}
use lib.Seq.{sets, drop-append-add, take-take}
use Rattle.numbers.specs.Numbers.{num, tab}
use Rattle.numbers.proofs.NumberLaws.{length-tab, get_or-tab}
use Rattle.std.specs.List.{list_all}
use Rattle.predicates.specs.code.Marks.{singles, mark_of}
use Rattle.predicates.proofs.ListLaws.{both_l, both_r, all_out}
use Rattle.predicates.proofs.MarkLaws.{singles-zeros, mark-singles}
use Rattle.state.specs.Layout.{own_at, entry_place, entry_count, masks_at, row_at, entry_at}
use Rattle.state.specs.Form.{term_fits, row_fits, in_form, entry_fits}
use Rattle.state.specs.code.Tables.{table, TableFits, row_of, entry_masks, table_from}
use Rattle.state.proofs.LayoutLaws.{all-tab, At, at_joined, at_part}
use Rattle.state.proofs.RowLaws.{table-room}
use Rattle.state.proofs.StateLaws.{form_entry}
use Rattle.state.proofs.StoreLaws.{length-masks, length-entry_masks, column_front, length_column, row_standing}
use Rattle.entries.specs.code.Marks.{Marked}

-- ---- a list stored behind another

sets_cons : (x k : ℕ) (l e : List ℕ) → sets (x ∷ l) (suc k) e ≡ x ∷ sets l k e
sets_cons x k l [] = refl
sets_cons x k l (v ∷ e) = sets_cons x (suc k) (set l k v) e

sets_behind : (a l e : List ℕ) (k : ℕ) → sets (a ++ l) (length a + k) e ≡ a ++ sets l k e
sets_behind [] l e k = rw zero-add
sets_behind (x ∷ a) l e k = rw suc-add (sets_cons x (length a + k) (a ++ l) e ∙ ap (λ (m : List ℕ). x ∷ m) (sets_behind a l e k))

-- ---- where a row lies

module _ (first : ℕ) (s masks : List ℕ) where
  row_bytes_lem : (i : ℕ) → i < first → take 16 (drop (i * 16) (entry_masks first s ++ masks)) ≡ masks_at 16 (entry_place i) s
  unfolding entry_masks
  row_bytes_lem i h =
      let f : ℕ → List ℕ = λ k. masks_at 16 (entry_place k) s in
      let wide : T (list_all (λ l. eqb (length l) 16) (tab first f)) = all-tab (λ l. eqb (length l) 16) first f (λ k _. rw (length-masks 16 (entry_place k) s) (eqb_refl 16)) in
      let there : At (i * 16) (get_or (tab first f) i []) (entry_masks first s ++ masks) =
      rw zero-add at (at_joined (λ l. l) (λ l. eqb (length l) 16) 16 (λ l t. eqb→eq (length l) 16 t) [] 0 i (tab first f) (entry_masks first s ++ masks) wide
      (omega (arith, length-tab first f)) (masks, refl)) in
      at_part 16 (i * 16) (f i) (entry_masks first s ++ masks) (length-masks 16 (entry_place i) s) (rw (get_or-tab first i f [] h) at there)

  place-behind : (i : ℕ) → first ≤ i → i * 16 ≡ length (entry_masks first s) + (i - first) * 16
  place-behind i h = omega (arith, length-entry_masks first s)

  row_array : (i : ℕ) → first ≤ i → drop (i * 16) (entry_masks first s ++ masks) ≡ drop ((i - first) * 16) masks
  row_array i h =
      ap (λ (k : ℕ). drop k (entry_masks first s ++ masks)) (place-behind i h) ∙ drop-append-add (entry_masks first s) masks ((i - first) * 16)

  -- a row that is put into the array
  pub sets_array : (n : ℕ) (e : List ℕ) → first ≤ n → entry_masks first s ++ sets masks ((n - first) * 16) e ≡ sets (entry_masks first s ++ masks) (n * 16) e
  sets_array n e h =
      sym (ap (λ (k : ℕ). sets (entry_masks first s ++ masks) k e) (place-behind n h) ∙ sets_behind (entry_masks first s) masks e ((n - first) * 16))

  -- there is room in the array for a row of the table
  pub array_room : (i : ℕ) → first ≤ i → i * 16 + 16 ≤ length (entry_masks first s ++ masks) → (i - first) * 16 + 16 ≤ length masks
  array_room i h k = omega (arith, length-append (entry_masks first s) masks, length-entry_masks first s)

  -- a row read from the bytes
  pub row_read : (i : ℕ) → i < first → tab 16 (λ k. num (entry_place i + 4 + k * 4) 4 s) ≡ take 16 (drop (i * 16) (entry_masks first s ++ masks))
  unfolding masks_at
  row_read i h = sym (row_bytes_lem i h)

  -- a row lent from the array
  pub row_lent : (counts : List ℕ) (i : ℕ) → first ≤ i
      → take ((i - first) * 16 + get_or counts i 0 - (i - first) * 16) (drop ((i - first) * 16) masks) ≡ row_of 16 (table_from first s counts masks) i
  unfolding row_of
  row_lent counts i h =
      let wide : (i - first) * 16 + get_or counts i 0 - (i - first) * 16 ≡ get_or counts i 0 = omega arith in
      rw wide (ap (λ (l : List ℕ). take (get_or counts i 0) l) (sym (row_array i h)))

  -- room for a row more
  pub more_room : (n : ℕ) → (n + 1) * 16 ≤ first * 16 + length masks → n * 16 + 16 ≤ length (entry_masks first s ++ masks)
  more_room n h = omega (arith, h, length-append (entry_masks first s) masks, length-entry_masks first s)

-- the terms in use of row i, which was read
module _ (i : ℕ) (counts masks row : List ℕ) (t : TableFits 16 (i + 1) (table counts masks)) (e : row ≡ take 16 (drop (i * 16) masks)) where
  room : i * 16 + get_or counts i 0 ≤ length masks
  room = table-room 16 (i + 1) counts masks t i (omega arith)

  pub row-taken : take (get_or counts i 0) row ≡ row_of 16 (table counts masks) i
  unfolding row_of
  row-taken = rw e (take-take (get_or counts i 0) 16 (drop (i * 16) masks) (t.narrow i))

pub row-none : (i : ℕ) (counts masks : List ℕ) → get_or counts i 0 ≡ 0 → length (row_of 16 (table counts masks) i) ≡ 0
unfolding row_of
row-none i counts masks z = rw z

-- ---- the mark of an entry in a state in form

module _ (s : List ℕ) (t : T (in_form s)) (i : ℕ) (h : i < entry_count s) where
  -- no term in use is empty, and those behind them count for nothing: the whole row gives the mark
  pub mark-read : singles (tab 16 (λ k. num (entry_place i + 4 + k * 4) 4 s)) ≡ mark_of (entry_at s i)
  unfolding entry_fits row_fits term_fits entry_at row_at masks_at
  mark-read =
      let own = num own_at 4 s in
      let masks = masks_at 16 (entry_place i) s in
      let used = num (entry_place i) 4 s in
      let form = form_entry s t i h in
      let zero : T (list_all (λ x. eqb x 0) (drop used masks)) = search (both_l, both_r) depth 9 in
      let full : T (list_all (term_fits own) (entry_at s i)) = search (both_l, both_r) depth 9 in
      ap singles (sym (take-append-drop used masks)) ∙ singles-zeros (take used masks) (drop used masks) zero
      ∙ sym (mark-singles (entry_at s i) (λ x m. ltb→lt 0 x (both_l (ltb 0 x) _ (all_out (term_fits own) (entry_at s i) full x m))))

-- the counts and the marks of a state in form have been made
pub marks_standing : (n : ℕ) (s : List ℕ) → T (in_form s) → n ≡ entry_count s → (c₀ c masks k₀ k : List ℕ) → c ≡ tab n (λ i. num (entry_place i) 4 s) ++ drop n c₀
    → k ≡ tab n (λ i. mark_of (entry_at s i)) ++ drop n k₀ → n ≤ length k₀ → Marked n (table_from n s c masks) k
marks_standing n s t a c₀ c masks k₀ k p q h =
    record {
      reach = omega (arith, length_column (λ i. mark_of (entry_at s i)) n k₀ k q h);
      mark = λ i l f. column_front (λ j. mark_of (entry_at s j)) n i k₀ k q l ∙ ap mark_of (sym (row_standing n s t a c₀ c masks p i l));
    }
