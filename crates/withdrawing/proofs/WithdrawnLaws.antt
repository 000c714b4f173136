-- What is held and known when names count as failed, row by row: a datum or an entry goes or is put last, and each that is left has terms.
-- No contract cites this file. Assumes nothing.
use Prim.Native.Nat.{ℕ, ◌+◌, ◌<◌}
use mathlib.Core.Path.{◌≡◌, refl, sym, ap, ◌∙◌}
use mathlib.Core.Bool.{true, false, not}
use mathlib.Core.List.{List, [], ◌∷◌, ◌++◌, map, map-append, append-nil}
use borrow.Author.Tests.{eq-eqb, ne_eqb}
use lib.Dec.{T, eqb}
use lib.ListN.{length, get_or, take, set}
use Rattle.std.specs.Prelude.{All}
use Rattle.std.proofs.lemmas.List.{take_more_set}
use Rattle.std.proofs.lemmas.List.Elements.{All-push}
use Rattle.state.specs.declared.holding.Held.{Held}
use Rattle.numbers.specs.Numbers.{num, tab}
use Rattle.numbers.proofs.NumberLaws.{tab_suc, map-tab}
use Rattle.std.specs.List.{list_all, filter}
use Rattle.predicates.specs.Lists.{padded}
use Rattle.predicates.specs.Predicates.{is_true}
use Rattle.predicates.proofs.ListLaws.{true_T, keep_all, keep_append, all_keep}
use Rattle.predicates.proofs.SumLaws.{padded-front}
use Rattle.epochs.specs.Epochs.{withdraw}
use Rattle.epochs.proofs.WithdrawLaws.{withdraw-some}
use Rattle.ends.specs.declared.Ends.{Ends}
use Rattle.state.specs.Model.{Datum}
use Rattle.state.specs.Layout.{own_at, datum_terms, entry_terms, datum_place, entry_place, row_in, held_count, entry_count, row_at, datum_at, entry_at, store_of}
use Rattle.state.specs.Form.{datum_fits, entry_fits, in_form}
use Rattle.state.specs.code.Tables.{Table, HeldFits, has_terms, row_of, entries_in, datum_of, datum_in, data_in, ends_at}
use Rattle.state.proofs.LayoutLaws.{all-tab}
use Rattle.state.proofs.FormLaws.{datum-row}
use Rattle.state.proofs.RowLaws.{has_some}
use Rattle.state.proofs.StateLaws.{form-datum, form_entry}
use Rattle.state.proofs.SeenLaws.{row-some, row_true}
use Rattle.entries.specs.Entries.{withdrawn_entries}
use Rattle.steps.specs.Withdrawn.{withdrawn_datum, withdrawn_data}

module _ (r : ℕ) where
  -- a datum that has become true goes, any other stays
  pub withdrawn_gone : (d : Datum) → is_true (withdraw r d.terms) ≡ true → withdrawn_data r (d ∷ []) ≡ []
  unfolding withdrawn_data
  withdrawn_gone d e = rw e

  pub withdrawn_stays : (d : Datum) → is_true (withdraw r d.terms) ≡ false → withdrawn_data r (d ∷ []) ≡ withdrawn_datum r d ∷ []
  unfolding withdrawn_data
  withdrawn_stays d e = rw e

  withdrawn-append : (xs ys : List Datum) → withdrawn_data r (xs ++ ys) ≡ withdrawn_data r xs ++ withdrawn_data r ys
  unfolding withdrawn_data
  withdrawn-append xs ys =
      ap (λ (l : List Datum). filter (λ d. not (is_true d.terms)) l) (map-append (withdrawn_datum r) xs ys)
      ∙ keep_append (λ d. not (is_true d.terms)) (map (withdrawn_datum r) xs) (map (withdrawn_datum r) ys)

  pub withdrawn-none : withdrawn_data r [] ≡ []
  unfolding withdrawn_data
  withdrawn-none = refl

  -- one datum more
  pub withdrawn_next : (s : List ℕ) (i : ℕ) (xs ys : List Datum) → xs ≡ withdrawn_data r (tab i (datum_at s)) → ys ≡ xs ++ withdrawn_data r (datum_at s i ∷ [])
      → ys ≡ withdrawn_data r (tab (i + 1) (datum_at s))
  withdrawn_next s i xs ys p q =
      q ∙ ap (λ (l : List Datum). l ++ withdrawn_data r (datum_at s i ∷ [])) p
      ∙ sym (ap (withdrawn_data r) (tab_suc i (datum_at s)) ∙ withdrawn-append (tab i (datum_at s)) (datum_at s i ∷ []))

  -- a datum in form has been read with its names counted as failed
  module _ (own : ℕ) (s : List ℕ) (i : ℕ) (t : T (datum_fits own s i)) (row : List ℕ)
      (e : row ≡ padded datum_terms (withdraw r (row_at datum_terms (datum_place i + row_in) s))) where
    seen_true : is_true (withdraw r (datum_at s i).terms) ≡ eqb (get_or row 0 0) 0
    unfolding datum_at
    seen_true = row_true own datum_terms (datum_place i + row_in) s (datum-row own s i t) r ∙ ap (λ (l : List ℕ). eqb (get_or l 0 0) 0) (sym e)

    pub seen_gone : get_or row 0 0 ≡ 0 → withdrawn_data r (datum_at s i ∷ []) ≡ []
    seen_gone z = withdrawn_gone (datum_at s i) (seen_true ∙ eq-eqb _ 0 z)

    module _ (n : ℕ) (p : n ≡ length (withdraw r (row_at datum_terms (datum_place i + row_in) s))) where
      seen_terms : take n row ≡ withdraw r (row_at datum_terms (datum_place i + row_in) s)
      seen_terms =
          let w = withdraw r (row_at datum_terms (datum_place i + row_in) s) in
          rw (p, e) (ap (λ (l : List ℕ). take (length w) l) (sym (append-nil (padded datum_terms w))) ∙ padded-front datum_terms w [])

      pub seen_stays : (e : Ends) → (get_or row 0 0 ≡ 0 → ⊥) → e ≡ ends_at s i → withdrawn_data r (datum_at s i ∷ []) ≡ datum_of e (take n row) ∷ []
      unfolding datum_at ends_at
      seen_stays e f x = withdrawn_stays (datum_at s i) (seen_true ∙ ne_eqb _ 0 f) ∙ rw (x, seen_terms)

  -- all of a state in form: none of those that are left has been given up
  module _ (s : List ℕ) (t : T (in_form s)) where
    some-terms : T (list_all (λ d. has_terms d.terms) (withdrawn_data r (tab (held_count s) (datum_at s))))
    unfolding withdrawn_data datum_at
    some-terms =
        all_keep (λ d. has_terms d.terms) (λ d. not (is_true d.terms)) (map (withdrawn_datum r) (tab (held_count s) (datum_at s)))
        (rw (map-tab (withdrawn_datum r) (held_count s) (datum_at s))
        (all-tab (λ d. has_terms d.terms) (held_count s) (λ i. withdrawn_datum r (datum_at s i)) (λ i h.
        let own = num own_at 4 s in
        true_T _ (has_some (withdraw r (datum_at s i).terms)
        (withdraw-some r (datum_at s i).terms (row-some own datum_terms (datum_place i + row_in) s (datum-row own s i (form-datum s t i h))))))))

    pub withdrawn-held : (n : ℕ) (c : List Held) → n ≡ held_count s → map datum_in c ≡ withdrawn_data r (tab n (datum_at s))
        → (map datum_in c ≡ withdrawn_data r (store_of s).held) × (data_in c ≡ map datum_in c)
    unfolding store_of data_in
    withdrawn-held n c a e =
        let held : map datum_in c ≡ withdrawn_data r (tab (held_count s) (datum_at s)) = e ∙ ap (λ (m : ℕ). withdrawn_data r (tab m (datum_at s))) a in
        (held, rw held (keep_all (λ d. has_terms d.terms) (withdrawn_data r (tab (held_count s) (datum_at s))) some-terms))

-- a row put behind the first r
module _ (held : List Held) (r : ℕ) (x : Held) (h : r < length held) where
  pub row-fits_put : All HeldFits (take r held) → HeldFits x → All HeldFits (take (r + 1) (set held r x))
  row-fits_put a f = rw take_more_set (All-push HeldFits (take r held) x a f)

  pub rows_put : map datum_in (take (r + 1) (set held r x)) ≡ map datum_in (take r held) ++ (datum_in x ∷ [])
  rows_put = rw take_more_set (map-append datum_in (take r held) (x ∷ []))

-- ---- the entries

module _ (r : ℕ) where
  entries-append : (xs ys : List (List ℕ)) → withdrawn_entries r (xs ++ ys) ≡ withdrawn_entries r xs ++ withdrawn_entries r ys
  unfolding withdrawn_entries
  entries-append xs ys =
      ap (λ (l : List (List ℕ)). filter (λ e. not (is_true e)) l) (map-append (withdraw r) xs ys)
      ∙ keep_append (λ e. not (is_true e)) (map (withdraw r) xs) (map (withdraw r) ys)

  pub entries_none : withdrawn_entries r [] ≡ []
  unfolding withdrawn_entries
  entries_none = refl

  -- one entry more
  pub entries_next : (s : List ℕ) (i : ℕ) (xs ys : List (List ℕ)) → xs ≡ withdrawn_entries r (tab i (entry_at s)) → ys ≡ xs ++ withdrawn_entries r (entry_at s i ∷ [])
      → ys ≡ withdrawn_entries r (tab (i + 1) (entry_at s))
  entries_next s i xs ys p q =
      q ∙ ap (λ (l : List (List ℕ)). l ++ withdrawn_entries r (entry_at s i ∷ [])) p
      ∙ sym (ap (withdrawn_entries r) (tab_suc i (entry_at s)) ∙ entries-append (tab i (entry_at s)) (entry_at s i ∷ []))

  -- an entry in form has been read with its names counted as failed
  module _ (own : ℕ) (s : List ℕ) (i : ℕ) (t : T (entry_fits own s i)) (row : List ℕ)
      (e : row ≡ padded entry_terms (withdraw r (row_at entry_terms (entry_place i) s))) where
    entry_true : is_true (withdraw r (entry_at s i)) ≡ eqb (get_or row 0 0) 0
    unfolding entry_at entry_fits
    entry_true = row_true own entry_terms (entry_place i) s t r ∙ ap (λ (l : List ℕ). eqb (get_or l 0 0) 0) (sym e)

    pub entry_gone : get_or row 0 0 ≡ 0 → withdrawn_entries r (entry_at s i ∷ []) ≡ []
    unfolding withdrawn_entries
    entry_gone z = rw (entry_true ∙ eq-eqb _ 0 z)

    module _ (n : ℕ) (p : n ≡ length (withdraw r (row_at entry_terms (entry_place i) s))) where
      entry_terms_lem : take n row ≡ withdraw r (row_at entry_terms (entry_place i) s)
      entry_terms_lem =
          let w = withdraw r (row_at entry_terms (entry_place i) s) in
          rw (p, e) (ap (λ (l : List ℕ). take (length w) l) (sym (append-nil (padded entry_terms w))) ∙ padded-front entry_terms w [])

      pub length_entry : n ≡ length (take n row)
      length_entry = p ∙ ap length (sym entry_terms_lem)

      pub entry_stays : (get_or row 0 0 ≡ 0 → ⊥) → withdrawn_entries r (entry_at s i ∷ []) ≡ take n row ∷ []
      unfolding withdrawn_entries entry_at
      entry_stays f = rw (entry_true ∙ ne_eqb _ 0 f, entry_terms_lem)

  -- all of a state in form
  module _ (s : List ℕ) (t : T (in_form s)) where
    some-entries : T (list_all has_terms (withdrawn_entries r (tab (entry_count s) (entry_at s))))
    unfolding withdrawn_entries entry_at entry_fits
    some-entries =
        all_keep has_terms (λ e. not (is_true e)) (map (withdraw r) (tab (entry_count s) (entry_at s)))
        (rw (map-tab (withdraw r) (entry_count s) (entry_at s))
        (all-tab has_terms (entry_count s) (λ i. withdraw r (entry_at s i)) (λ i h.
        let own = num own_at 4 s in
        true_T _ (has_some (withdraw r (entry_at s i))
        (withdraw-some r (entry_at s i) (row-some own entry_terms (entry_place i) s (form_entry s t i h)))))))

    pub withdrawn_known : (k n : ℕ) (c : Table) → n ≡ entry_count s → tab k (row_of entry_terms c) ≡ withdrawn_entries r (tab n (entry_at s))
        → (tab k (row_of entry_terms c) ≡ withdrawn_entries r (store_of s).entries) × (entries_in k c ≡ tab k (row_of entry_terms c))
    unfolding store_of entries_in
    withdrawn_known k n c a e =
        let known : tab k (row_of entry_terms c) ≡ withdrawn_entries r (tab (entry_count s) (entry_at s)) = e ∙ ap (λ (m : ℕ). withdrawn_entries r (tab m (entry_at s))) a in
        (known, rw known (keep_all has_terms (withdrawn_entries r (tab (entry_count s) (entry_at s))) some-entries))
