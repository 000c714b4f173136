-- What ageing leaves in the bytes.
-- The idea: the loop stores datum after datum. Of a datum only the ends are stored, but its row stands behind them already, so the whole datum
-- might have been; and the same with the zeros behind the data. So the data and the reading are parts that are stored, and exchanged (`part_stored`).
-- No contract cites this file. Assumes nothing.
use Prim.Native.Nat.{ℕ, ◌+◌, ◌*◌, ◌-◌, ◌≤◌, ◌<◌}
use mathlib.Core.Path.{◌≡◌, sym, ◌∙◌}
use mathlib.Core.List.{List}
use native.Mathlib.Omega.{arith}
use lib.Dec.{T, leb→le, ltb→lt}
use lib.ListN.{length, drop, length-append, length-replicate}
use Rattle.predicates.proofs.ListLaws.{both_l, both_r}
use Rattle.numbers.specs.Numbers.{num, bytes, put, tab, Bytes}
use Rattle.numbers.proofs.NumberLaws.{length-bytes, put-append, put_num-same, length-tab, map-tab}
use Rattle.ends.specs.declared.Ends.{Ends}
use Rattle.ends.specs.Ends.{count_of, BothSplit}
use Rattle.state.specs.Model.{Datum, end_limit}
use Rattle.state.specs.code.Tables.{ends_at, with_ends}
use Rattle.state.specs.Layout.{state_size, reading_at, held_at, data_at, data_most, datum_size, zeros, joined, row_bytes, datum_bytes, data_bytes, parts, state_bytes, row_in, datum_terms, own_at}
use Rattle.state.specs.Layout.{datum_place, datum_at, held_count, head_of, store_of, state_of}
use Rattle.state.specs.Form.{terms_fit, datum_fits, data_fit, in_form, datum_ok}
use Rattle.predicates.proofs.IndexLaws.{below_out}
use Rattle.state.proofs.LayoutLaws.{part, At, length-datum}
use Rattle.state.proofs.FormLaws.{zeros_out, row_part, datum-row, ends_split}
use Rattle.state.proofs.StateLaws.{held_count_le, form-datum, datum_at_ok, begins-form}
use Rattle.state.proofs.RowLoops.{ends-put, ends-behind}
use Rattle.state.proofs.PutLaws.{part_stands, put_stands, drop-put, length-joined-tab, joined_next}
use Rattle.state.proofs.PartLaws.{part_stored}
use Rattle.engine.specs.Ageing.{slow, fast, widened, aged}
use Rattle.engine.specs.Calls.{age, moved, made, done}

-- ---- a held datum

pub record HeldFacts (d : Datum) : Type 0 where
  pub ordered : d.left ≤ d.right
  pub below : d.right < end_limit
  pub few : length d.terms ≤ 8

held_facts : (own : ℕ) (d : Datum) → T (datum_ok own d) → HeldFacts d
unfolding datum_ok terms_fit
held_facts own d t =
    record {
      ordered = leb→le d.left d.right (search both_l);
      below = ltb→lt d.right end_limit (search (both_l, both_r) depth 9);
      few = leb→le (length d.terms) 8 (search (both_l, both_r) depth 9);
    }

pub held_at_lem : (s : List ℕ) → T (in_form s) → (i : ℕ) → i < held_count s → HeldFacts (datum_at s i)
held_at_lem s t i h = held_facts _ (datum_at s i) (datum_at_ok s t i h)

-- the two numbers of each end are those of the datum
pub record EndsHeld (d : Datum) (e : Ends) : Type 0 where
  pub split : BothSplit e
  pub left_is : count_of e.left ≡ d.left
  pub right_is : count_of e.right ≡ d.right

pub ends_held : (s : List ℕ) → T (in_form s) → (i : ℕ) → i < held_count s → (e : Ends) → e ≡ ends_at s i → EndsHeld (datum_at s i) e
unfolding datum_at ends_at
ends_held s t i h e r = record { split = rw r (ends_split (num own_at 4 s) s i (form-datum s t i h)); left_is = rw r; right_is = rw r }

-- ---- the loop

module _ (s : List ℕ) (lo hi : ℕ) where
  -- datum k, widened, and the first i of them
  abbrev wide : ℕ → Datum
  wide k = widened lo hi (datum_at s k)

  abbrev pub front : ℕ → List ℕ
  front i = joined datum_bytes (tab i wide)

module _ (s : List ℕ) (t : T (in_form s)) (lo hi : ℕ) where
  length-wide : (i : ℕ) → i < held_count s → length (datum_bytes (wide s lo hi i)) ≡ 60
  unfolding widened
  length-wide i h = length-datum _ (held_at_lem s t i h).few

  pub length_front : (i : ℕ) → i ≤ held_count s → length (front s lo hi i) ≡ i * datum_size
  length_front i h = length-joined-tab datum_bytes 60 i (wide s lo hi) (λ k p. length-wide k (omega arith))

  -- from datum i on all is as it was
  behind-same : (i : ℕ) (u : List ℕ) → i ≤ held_count s → u ≡ put data_at (front s lo hi i) s → drop (datum_place i) u ≡ drop (datum_place i) s
  behind-same i u h p = rw (p, drop-put (datum_place i) data_at (front s lo hi i) s (omega (arith, length_front i h)))

  -- the ends that a turn reads
  pub ends_there : (i : ℕ) (u : List ℕ) → i < held_count s → u ≡ put data_at (front s lo hi i) s → (e : Ends) → e ≡ ends_at u i → EndsHeld (datum_at s i) e
  ends_there i u h p e r = ends_held s t i h e (r ∙ ends-behind i s u (behind-same i u (omega arith) p))

  module _ (b : Bytes s) (l : state_size ≤ length s) where
    row_stands : (i : ℕ) → i < held_count s → At (datum_place i + row_in) (row_bytes datum_terms (datum_at s i).terms) s
    unfolding datum_at in_form data_fit
    row_stands i h =
        let few = held_count_le s t in
        let fits : T (datum_fits (num own_at 4 s) s i) = below_out (held_count s) (datum_fits (num own_at 4 s) s) (search (both_l, both_r) depth 9) i h in
        rw (row_part (num own_at 4 s) datum_terms (datum_place i + row_in) s (datum-row (num own_at 4 s) s i fits) b (omega arith)) (part_stands (datum_place i + row_in) 36 s)

    -- a turn
    pub widen_next : (i : ℕ) (u w : List ℕ) (e : Ends) → i < held_count s → u ≡ put data_at (front s lo hi i) s → BothSplit e
        → count_of e.left ≡ (datum_at s i).left + lo → count_of e.right ≡ (datum_at s i).right + hi → w ≡ with_ends i e u
        → w ≡ put data_at (front s lo hi (i + 1)) s
    unfolding widened
    widen_next i u w e h p split x y q =
        let row = row_stands i h in
        let same : drop (datum_place i + row_in) u ≡ drop (datum_place i + row_in) s =
        rw (p, drop-put (datum_place i + row_in) data_at (front s lo hi i) s (omega (arith, length_front i (omega arith)))) in
        let stored = q ∙ ends-put i e (datum_at s i).terms u split (held_at_lem s t i h).few (row.0, same ∙ row.1) in
        joined_next datum_bytes 60 24 i (wide s lo hi) s u w (λ n m. length-wide n (omega arith)) p (rw (x, y) at stored)

-- all data, as the definition has them
pub held-tab : (lo hi : ℕ) (s : List ℕ) → (aged lo hi (store_of s)).held ≡ tab (held_count s) (wide s lo hi)
unfolding aged store_of
held-tab lo hi s = map-tab (widened lo hi) (held_count s) (datum_at s)

-- ---- the whole state

module _ (s : List ℕ) (t : T (in_form s)) (b : Bytes s) (l : state_size ≤ length s) where
  -- the zeros behind the held data
  abbrev behind : List ℕ
  behind = zeros ((data_most - held_count s) * datum_size)

  behind_stands : At (datum_place (held_count s)) behind s
  unfolding in_form data_fit
  behind_stands =
      let few = held_count_le s t in
      let free = (data_most - held_count s) * datum_size in
      let zero : part (datum_place (held_count s)) free s ≡ behind =
      zeros_out (datum_place (held_count s)) free (datum_place data_most) s (omega arith) (omega arith) (search (both_l, both_r) depth 9) in
      rw (← zero) (part_stands (datum_place (held_count s)) free s)

  module _ (lo hi : ℕ) where
    abbrev aged_held : List Datum
    aged_held = (aged lo hi (store_of s)).held

    length-aged : length aged_held ≡ held_count s
    length-aged = rw (held-tab lo hi s) (length-tab (held_count s) _)

    long : length (joined datum_bytes aged_held) ≡ held_count s * datum_size
    long = rw (held-tab lo hi s) (length_front s t lo hi (held_count s) (omega arith))

    -- with the zeros behind them, the aged data are the whole part
    data_part : (u : List ℕ) → u ≡ put data_at (joined datum_bytes aged_held) s → u ≡ put data_at (data_bytes aged_held) s
    unfolding data_bytes
    data_part u p =
        let few = held_count_le s t in
        let at = datum_place (held_count s) in
        let same : drop at u ≡ drop at s = rw (p, drop-put at data_at (joined datum_bytes aged_held) s (omega (arith, long))) in
        let stands : put at behind u ≡ u = put_stands at behind u (behind_stands.0, same ∙ behind_stands.1) in
        rw (length-aged, put-append (held_count s * datum_size) data_at (joined datum_bytes aged_held) behind s long, ← p) (sym stands)

    length_data : length (data_bytes aged_held) ≡ data_most * datum_size
    unfolding data_bytes
    length_data =
        let few = held_count_le s t in
        rw (length-append, length-replicate, long, length-aged) (omega arith)

    -- the held count stays as it is
    count_stands : s ≡ put held_at (bytes 4 (length aged_held)) s
    count_stands = rw length-aged (sym (put_num-same 4 held_at s b))

  -- the data and the reading are stored, and exchanged: that is the whole state
  pub age-put : (reading : ℕ) (u w : List ℕ)
      → u ≡ put data_at (joined datum_bytes (aged (slow (head_of s) reading) (fast (head_of s) reading) (store_of s)).held) s
      → w ≡ put reading_at (bytes 8 reading) u → w ≡ put 0 (state_bytes (done (state_of s) (age reading))) s
  unfolding parts state_bytes state_of done moved made aged
  age-put reading u w p q =
      let lo = slow (head_of s) reading in
      let hi = fast (head_of s) reading in
      let count = part_stored 3 _ _ _ _ _ (omega arith) (length-bytes 4 _) (count_stands lo hi) (begins-form s t b l) in
      let held = part_stored 5 _ _ _ _ _ (omega arith) (length_data lo hi) (data_part lo hi u p) count in
      let all_of = part_stored 2 _ _ _ _ _ (omega arith) (length-bytes 8 _) q held in
      all_of.stored
