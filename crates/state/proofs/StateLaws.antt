-- Laws of the whole state: a right state (`state_ok`) is written in form and read back, and bytes in form hold a right state and are the bytes
-- of that state. So bytes in form and right states are one and the same, and a call that changes bytes is compared by their state.
-- The idea: the state is taken apart into its parts (`proofs.PartLaws`); the laws of data and entries are those of `proofs.FormLaws`.
-- No contract cites this file. Assumes nothing.
use Prim.Native.Nat.{ℕ, zero, suc, ◌+◌, ◌*◌, ◌≤◌, ◌<◌}
use mathlib.Core.Path.{◌≡◌, refl, sym, ap, ◌∙◌}
use mathlib.Core.Bool.{true, ◌&&◌}
use mathlib.Core.List.{List, [], ◌∷◌, ◌++◌}
use native.Mathlib.Omega.{arith}
use lib.Dec.{T, leb, leb→le, ltb→lt, eqb, eqb→eq}
use lib.ListN.{length, get_or, take, drop, set, length-set, take-append-drop}
use Rattle.numbers.specs.Numbers.{num, put, tab, Bytes}
use Rattle.numbers.proofs.NumberLaws.{bytes-num, put_front, length-bytes, length-tab, get_or-tab}
use Rattle.std.specs.List.{list_all}
use Rattle.predicates.specs.Lists.{all_below}
use Rattle.predicates.proofs.ListLaws.{both, both_l, both_r}
use Rattle.epochs.specs.Epochs.{epoch_most, epochs_most, epochs_in}
use Rattle.epochs.proofs.EpochLaws.{length_known, known_slice}
use Rattle.clocks.specs.Clocks.{Saved, nothing, saved_ok}
use Rattle.clocks.specs.Places.{place_size, saved_bytes, saved_at, place_fits}
use Rattle.clocks.proofs.PlaceLaws.{length-saved, saved-small}
use Rattle.state.specs.Model.{State, with_clocks, reading_limit, name_most}
use Rattle.clocks.specs.Clocks.{drift_most}
use Rattle.state.specs.Layout.{state_size, own_at, drift_at, reading_at, held_at, known_at, data_at, data_most, datum_size, entries_at, entries_most, entry_size, entry_terms, row_in, datum_terms, clocks_at, clocks_most, epochs_at}
use Rattle.state.specs.Layout.{datum_bytes, entry_bytes, data_bytes, entries_bytes, parts, state_bytes, datum_at, entry_at, datum_place, entry_place, clock_place, joined, held_count, entry_count, head_of, store_of, state_of}
use Rattle.state.specs.Form.{terms_fit, is_zero, datum_fits, entry_fits, head_fits, data_fit, entries_fit, clocks_fit, epochs_fit, in_form, head_ok, datum_ok, store_ok, counts_ok, state_ok}
use Rattle.state.proofs.LayoutLaws.{all-tab, part, slice_part, At, known_at_lem, num_at, joined-tab, length-joined}
use Rattle.state.proofs.ClockLaws.{clocks_in, saved_part}
use Rattle.predicates.proofs.IndexLaws.{below_out}
use Rattle.state.proofs.PutLaws.{part_stands, joined-set}
use Rattle.state.proofs.PartLaws.{Sized, place_in, part_sizes, cut_from, cut_together, length_together, at_part_in, Begins, part_stored}
use Rattle.state.proofs.FormLaws.{length_filled, filled_part, places_in, row_out, row_part, length-row_at, datum_size_lem, entry_size_lem, datum_in_lem, entry_in, datum-row, datum_out, datum_part}

-- ---- from a right state to its bytes

-- the numbers in the head
record HeadRead (st : State) (s : List ℕ) : Type 0 where
  own : num own_at 4 s ≡ st.head.own
  drift : num drift_at 4 s ≡ st.head.drift
  reading : num reading_at 8 s ≡ st.head.reading
  held : held_count s ≡ length st.store.held
  entries : entry_count s ≡ length st.store.entries

-- the facts of a state that is right
pub record OkState (st : State) : Type 0 where
  pub own_le : st.head.own ≤ name_most
  pub drift_le : st.head.drift ≤ drift_most
  pub reading_lt : st.head.reading < reading_limit
  pub held : T (list_all (datum_ok st.head.own) st.store.held)
  pub entries : T (list_all (terms_fit st.head.own 16) st.store.entries)
  pub held_le : length st.store.held ≤ 16
  pub entries_le : length st.store.entries ≤ 32
  pub clocks-all : length st.head.clocks ≡ clocks_most
  pub clocks : T (list_all saved_ok st.head.clocks)
  pub epochs-all : length st.head.epochs ≡ epochs_most
  pub epochs : T (list_all (λ e. leb e epoch_most) st.head.epochs)

pub state_out : (st : State) → T (state_ok st) → OkState st
unfolding state_ok head_ok store_ok counts_ok
state_out st t =
    record {
      own_le = leb→le _ 28 (search (both_l, both_r) depth 9);
      drift_le = leb→le _ 1000 (search (both_l, both_r) depth 9);
      reading_lt = ltb→lt _ reading_limit (search (both_l, both_r) depth 9);
      held = search (both_l, both_r) depth 9;
      entries = search (both_l, both_r) depth 9;
      held_le = leb→le _ 16 (search (both_l, both_r) depth 9);
      entries_le = leb→le _ 32 (search (both_l, both_r) depth 9);
      clocks-all = eqb→eq _ clocks_most (search (both_l, both_r) depth 9);
      clocks = search (both_l, both_r) depth 9;
      epochs-all = eqb→eq _ epochs_most (search (both_l, both_r) depth 12);
      epochs = search (both_l, both_r) depth 12;
    }

module _ (st : State) (t : T (state_ok st)) where
  ok : OkState st
  ok = state_out st t

  clocks_sized : length (joined saved_bytes st.head.clocks) ≡ clocks_most * place_size
  clocks_sized =
      length-joined saved_bytes saved_ok place_size (λ v _. length-saved v) st.head.clocks ok.clocks ∙ ap (λ (n : ℕ). n * place_size) ok.clocks-all

  -- its parts have their sizes
  pub parts_sized : Sized part_sizes (parts st)
  unfolding parts data_bytes entries_bytes
  parts_sized = (
    length-bytes 4 _,
    (
      length-bytes 4 _,
      (
        length-bytes 8 _,
        (
          length-bytes 4 _,
          (
            length-bytes 4 _,
            (
              length_filled datum_bytes datum_size data_most data_at (datum_ok _) (datum_size_lem _) st.store.held ok.held ok.held_le,
              (
                length_filled entry_bytes entry_size entries_most entries_at (terms_fit _ entry_terms) (entry_size_lem _) st.store.entries ok.entries ok.entries_le,
                (clocks_sized, (ok.epochs-all, tt)),
              ),
            ),
          ),
        ),
      ),
    ),
  )

  pub length-state : length (state_bytes st) ≡ state_size
  unfolding state_bytes
  length-state = length_together part_sizes (parts st) parts_sized

  -- a state that stands at the front of s is read, and in form
  module _ (s : List ℕ) (h : At 0 (state_bytes st) s) where
    -- part k stands at its place
    stands : (k : ℕ) → k < length (parts st) → At (0 + place_in part_sizes k) (get_or (parts st) k []) s
    unfolding state_bytes parts
    stands k l = at_part_in part_sizes (parts st) k 0 s parts_sized l h

    head_read : HeadRead st s
    unfolding parts
    head_read =
        let o = ok in
        record {
          own = num_at 4 own_at _ s (omega arith) (stands 0 (omega arith));
          drift = num_at 4 drift_at _ s (omega arith) (stands 1 (omega arith));
          reading = num_at 8 reading_at _ s (omega arith) (stands 2 (omega arith));
          held = num_at 4 held_at _ s (omega arith) (stands 3 (omega arith));
          entries = num_at 4 known_at _ s (omega arith) (stands 4 (omega arith));
        }

    data_in_lem : (tab (length st.store.held) (datum_at s) ≡ st.store.held)
        × T (all_below (length st.store.held) (datum_fits st.head.own s) && is_zero (datum_place (length st.store.held)) (datum_place data_most) s)
    unfolding parts data_bytes
    data_in_lem =
        places_in datum_bytes datum_size data_most data_at (datum_ok _) (datum_size_lem _) st.store.held ok.held ok.held_le
        (datum_at s) (datum_fits _ s) s (datum_in_lem _ s) (record { left = 0; right = 0; terms = [] }) (stands 5 (omega arith))

    entries_in_lem : (tab (length st.store.entries) (entry_at s) ≡ st.store.entries)
        × T (all_below (length st.store.entries) (entry_fits st.head.own s) && is_zero (entry_place (length st.store.entries)) (entry_place entries_most) s)
    unfolding parts entries_bytes
    entries_in_lem =
        places_in entry_bytes entry_size entries_most entries_at (terms_fit _ entry_terms) (entry_size_lem _) st.store.entries ok.entries ok.entries_le
        (entry_at s) (entry_fits _ s) s (entry_in _ s) [] (stands 6 (omega arith))

    clocks_at_lem : (tab clocks_most (λ i. saved_at (clock_place i) s) ≡ st.head.clocks) × T (all_below clocks_most (λ i. place_fits (clock_place i) s))
    unfolding parts
    clocks_at_lem = clocks_in st.head.clocks s ok.clocks-all ok.clocks (stands 7 (omega arith))

    epochs_at_lem : epochs_in epochs_at s ≡ st.head.epochs
    unfolding parts
    epochs_at_lem = known_at_lem epochs_at st.head.epochs s ok.epochs-all (stands 8 (omega arith))

    pub state-read : state_of s ≡ st
    unfolding state_of head_of store_of
    state-read =
        let r = head_read in
        rw (r.own, r.drift, r.reading, r.held, r.entries, data_in_lem.0, entries_in_lem.0, clocks_at_lem.0, epochs_at_lem)

    pub state-form : T (in_form s)
    unfolding in_form head_fits data_fit entries_fit clocks_fit epochs_fit state_ok head_ok counts_ok
    state-form =
        let r = head_read in
        rw (r.own, r.drift, r.reading, r.held, r.entries, epochs_at_lem) (search (both, both_l, both_r, data_in_lem.1, entries_in_lem.1, clocks_at_lem.1) depth 12)

  -- what is written is read back, and in form
  pub decode_encode : (rest : List ℕ) → state_of (state_bytes st ++ rest) ≡ st
  decode_encode rest = state-read (state_bytes st ++ rest) (rest, refl)

  pub encode_form : (rest : List ℕ) → T (in_form (state_bytes st ++ rest))
  encode_form rest = state-form (state_bytes st ++ rest) (rest, refl)

-- nothing is asked of the elements
all_true : {A : Type 0} (xs : List A) → T (list_all (λ x. true) xs)
all_true [] = tt
all_true (x ∷ xs) = all_true xs

-- a right state that is stored in front is in form, and read back
module _ (st : State) (s : List ℕ) (t : T (state_ok st)) (h : state_size ≤ length s) where
  pub put-form : T (in_form (put 0 (state_bytes st) s))
  put-form = rw (put_front state_size (state_bytes st) s (length-state st t) h) (encode_form st t (drop state_size s))

  pub put-state : state_of (put 0 (state_bytes st) s) ≡ st
  put-state = rw (put_front state_size (state_bytes st) s (length-state st t) h) (decode_encode st t (drop state_size s))

  -- storing one name's place in it exchanges what is saved of that name's clock
  pub place-put : (i : ℕ) (v : Saved) → i < clocks_most
      → put (clock_place i) (saved_bytes v) (put 0 (state_bytes st) s)
      ≡ put 0 (state_bytes (record { head = with_clocks st.head (set st.head.clocks i v); store = st.store })) s
  unfolding state_bytes parts
  place-put i v l =
      let u = put 0 (state_bytes st) s in
      let cs = st.head.clocks in
      let front : At 0 (state_bytes st) u = (drop state_size s, put_front state_size (state_bytes st) s (length-state st t) h) in
      let there : At clocks_at (joined saved_bytes cs) u = stands st t u front 7 (omega arith) in
      let all_there = (state_out st t).clocks-all in
      let near : i < length cs = omega arith in
      let sized : length (joined saved_bytes (set cs i v)) ≡ clocks_most * place_size =
      length-joined saved_bytes (λ x. true) place_size (λ x _. length-saved x) (set cs i v) (all_true (set cs i v)) ∙ rw (length-set cs i v, all_there) in
      (part_stored 7 (joined saved_bytes (set cs i v)) (parts st) s u _ (omega arith) sized
      (joined-set saved_bytes place_size clocks_at i cs v u length-saved near there) (record { sized = parts_sized st t; stored = refl })).stored

-- ---- from bytes in form to their state

pub length-held : (s : List ℕ) → length (store_of s).held ≡ held_count s
unfolding store_of
length-held s = length-tab (held_count s) (datum_at s)

pub length-entries : (s : List ℕ) → length (store_of s).entries ≡ entry_count s
unfolding store_of
length-entries s = length-tab (entry_count s) (entry_at s)

module _ (s : List ℕ) (t : T (in_form s)) where
  pub held_count_le : held_count s ≤ data_most
  unfolding in_form head_fits
  held_count_le = leb→le (held_count s) 16 (search (both_l, both_r) depth 9)

  pub entry_count_le : entry_count s ≤ entries_most
  unfolding in_form head_fits
  entry_count_le = leb→le (entry_count s) 32 (search (both_l, both_r) depth 9)

  pub form-datum : (i : ℕ) → i < held_count s → T (datum_fits (num own_at 4 s) s i)
  unfolding in_form data_fit
  form-datum i h = below_out (held_count s) (datum_fits (num own_at 4 s) s) (search (both_l, both_r) depth 9) i h

  pub form_entry : (i : ℕ) → i < entry_count s → T (entry_fits (num own_at 4 s) s i)
  unfolding in_form entries_fit
  form_entry i h = below_out (entry_count s) (entry_fits (num own_at 4 s) s) (search (both_l, both_r) depth 9) i h

  -- each datum and each entry that is read
  pub datum_at_ok : (i : ℕ) → i < held_count s → T (datum_ok (num own_at 4 s) (datum_at s i))
  datum_at_ok i h = datum_out (num own_at 4 s) s i (form-datum i h)

  pub length-datum_at : (i : ℕ) → i < held_count s → length (datum_at s i).terms ≡ num (datum_place i + row_in) 4 s
  unfolding datum_at
  length-datum_at i h = length-row_at (num own_at 4 s) datum_terms (datum_place i + row_in) s (datum-row (num own_at 4 s) s i (form-datum i h))

  pub entry_at_ok : (i : ℕ) → i < entry_count s → T (terms_fit (num own_at 4 s) entry_terms (entry_at s i))
  unfolding entry_at entry_fits
  entry_at_ok i h = row_out (num own_at 4 s) entry_terms (entry_place i) s (form_entry i h)

  pub length-entry_at : (i : ℕ) → i < entry_count s → length (entry_at s i) ≡ num (entry_place i) 4 s
  unfolding entry_at entry_fits
  length-entry_at i h = length-row_at (num own_at 4 s) entry_terms (entry_place i) s (form_entry i h)

  -- name i's place
  pub form-place : (i : ℕ) → i < clocks_most → T (place_fits (clock_place i) s)
  unfolding in_form clocks_fit
  form-place i h = below_out clocks_most (λ k. place_fits (clock_place k) s) (search (both_l, both_r) depth 9) i h

  -- bytes in form hold a right state
  pub form_ok : T (state_ok (state_of s))
  unfolding in_form head_fits epochs_fit state_of state_ok head_of head_ok store_of store_ok counts_ok
  form_ok =
      let ds = all-tab (datum_ok (num own_at 4 s)) (held_count s) (datum_at s) datum_at_ok in
      let es = all-tab (terms_fit (num own_at 4 s) entry_terms) (entry_count s) (entry_at s) entry_at_ok in
      let cs = all-tab saved_ok clocks_most (λ i. saved_at (clock_place i) s) (λ i h. saved-small (clock_place i) s (form-place i h)) in
      let known : T (eqb (length (epochs_in epochs_at s)) epochs_most) = rw (length_known epochs_at s) tt in
      let all_there : T (eqb (length (tab clocks_most (λ i. saved_at (clock_place i) s))) clocks_most) = rw length-tab tt in
      rw (length-held s, length-entries s) (search (both, both_l, both_r) depth 12)

  -- bytes in form are those of the state that they hold
  module _ (b : Bytes s) (h : state_size ≤ length s) where
    datum_bytes_lem : (i : ℕ) → i < held_count s → datum_bytes (datum_at s i) ≡ part (datum_place i) datum_size s
    datum_bytes_lem i k = let c = held_count_le in datum_part (num own_at 4 s) s i (form-datum i k) b (omega arith)

    entry_bytes_lem : (i : ℕ) → i < entry_count s → entry_bytes (entry_at s i) ≡ part (entry_place i) entry_size s
    unfolding entry_bytes entry_at entry_fits
    entry_bytes_lem i k = let c = entry_count_le in row_part (num own_at 4 s) entry_terms (entry_place i) s (form_entry i k) b (omega arith)

    -- each stands in its place
    pub datum_stands : (i : ℕ) → i < held_count s → At (datum_place i) (datum_bytes (datum_at s i)) s
    datum_stands i k = rw (datum_bytes_lem i k) (part_stands (datum_place i) datum_size s)

    pub entry_stands : (i : ℕ) → i < entry_count s → At (entry_place i) (entry_bytes (entry_at s i)) s
    entry_stands i k = rw (entry_bytes_lem i k) (part_stands (entry_place i) entry_size s)

    data_part : data_bytes (store_of s).held ≡ part data_at (data_most * datum_size) s
    unfolding data_bytes store_of in_form data_fit
    data_part =
        let c = held_count_le in
        rw length-tab (filled_part datum_bytes datum_size data_most data_at (held_count s) (datum_at s) s c (omega arith) datum_bytes_lem (search (both_l, both_r) depth 9))

    entries_part : entries_bytes (store_of s).entries ≡ part entries_at (entries_most * entry_size) s
    unfolding entries_bytes store_of in_form entries_fit
    entries_part =
        let c = entry_count_le in
        rw length-tab (filled_part entry_bytes entry_size entries_most entries_at (entry_count s) (entry_at s) s c (omega arith) entry_bytes_lem (search (both_l, both_r) depth 9))

    clocks_part : joined saved_bytes (head_of s).clocks ≡ part clocks_at (clocks_most * place_size) s
    unfolding head_of
    clocks_part =
        joined-tab saved_bytes place_size clocks_at clocks_most (λ i. saved_at (clock_place i) s) s
        (λ i k. saved_part (clock_place i) s (form-place i k) b (omega arith))

    epochs_part : (head_of s).epochs ≡ part epochs_at epochs_most s
    unfolding head_of
    epochs_part = known_slice epochs_at s h ∙ slice_part epochs_at epochs_most s

    -- part by part
    parts_are : parts (state_of s) ≡ cut_from 0 part_sizes s
    unfolding parts cut_from state_of head_of
    parts_are =
        rw (
          length-held s,
          length-entries s,
          bytes-num 4 own_at s b (omega arith),
          bytes-num 4 drift_at s b (omega arith),
          bytes-num 8 reading_at s b (omega arith),
          bytes-num 4 held_at s b (omega arith),
          bytes-num 4 known_at s b (omega arith),
          data_part,
          entries_part,
          clocks_part,
          epochs_part,
        )

    pub encode_decode : state_bytes (state_of s) ≡ take state_size s
    unfolding state_bytes
    encode_decode = rw parts_are (cut_together 0 part_sizes s)

    -- s, as its state and what lies beyond it
    pub form_split : s ≡ state_bytes (state_of s) ++ drop state_size s
    form_split = rw encode_decode (sym (take-append-drop state_size s))

    -- storing the state that is there changes nothing
    pub put-state-same : put 0 (state_bytes (state_of s)) s ≡ s
    put-state-same = put_front state_size (state_bytes (state_of s)) s (length-state (state_of s) form_ok) h ∙ sym form_split

    -- they begin with its parts, so that a call may exchange one (`part_stored`)
    pub begins-form : Begins (parts (state_of s)) s s
    unfolding state_bytes
    begins-form = record { sized = parts_sized (state_of s) form_ok; stored = sym put-state-same }

-- what is saved of name i's clock
pub clock_read : (s : List ℕ) (i : ℕ) → i < clocks_most → get_or (head_of s).clocks i nothing ≡ saved_at (clock_place i) s
unfolding head_of
clock_read s i h = get_or-tab clocks_most i (λ k. saved_at (clock_place k) s) nothing h

-- the epochs of a state in form
pub epochs_fit_lem : (s : List ℕ) → T (in_form s) → (n : ℕ) → get_or (epochs_in epochs_at s) n 0 ≤ epoch_most
unfolding in_form epochs_fit
epochs_fit_lem s t n = all_places (epochs_in epochs_at s) (search (both_l, both_r) depth 9) n
  where
    all_places : (es : List ℕ) → T (list_all (λ e. leb e epoch_most) es) → (n : ℕ) → get_or es n 0 ≤ epoch_most
    all_places [] k n = omega arith
    all_places (e ∷ es) k zero = leb→le e epoch_most (both_l (leb e epoch_most) _ k)
    all_places (e ∷ es) k (suc n) = all_places es (both_r (leb e epoch_most) _ k) n

-- the own name of a state in form
pub own-fits : (s : List ℕ) → T (in_form s) → num own_at 4 s ≤ name_most
unfolding state_of head_of
own-fits s t = (state_out (state_of s) (form_ok s t)).own_le

pub drift-fits : (s : List ℕ) → T (in_form s) → num drift_at 4 s ≤ drift_most
unfolding state_of head_of
drift-fits s t = (state_out (state_of s) (form_ok s t)).drift_le

pub reading-fits : (s : List ℕ) → T (in_form s) → num reading_at 8 s < reading_limit
unfolding state_of head_of
reading-fits s t = (state_out (state_of s) (form_ok s t)).reading_lt

-- the ranges of the head's numbers
pub ruleset head_ranges = (own-fits, drift-fits, reading-fits, held_count_le, entry_count_le)
