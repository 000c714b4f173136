-- Keys lie as the ends of one state do, and tell the whole microseconds on either side; and what the arrays have of a state with keys for ends.
-- The idea: counts do so by themselves, from any base that no end is before; and a rank counts the parts that lie below, so of two ends in one
-- microsecond the later has the greater rank, since the millionths of the earlier are a part, and rank 0 is 0 millionths alone, since 0 is a part.
-- No contract cites this file. Assumes nothing.
use Prim.Native.Nat.{ℕ, zero, suc, ◌+◌, ◌*◌, ◌-◌, ◌/◌, ◌%◌, ◌^◌, ◌≤◌, ◌<◌, min, max}
use mathlib.Core.Path.{◌≡◌, refl, sym, ap, ◌∙◌}
use mathlib.Core.Bool.{Bool, true, false, cond}
use mathlib.Core.List.{List, [], ◌++◌}
use native.Mathlib.Decide.{ℕ_discrete, dec_lt}
use native.Mathlib.Numerals.{add-one}
use native.Mathlib.Omega.{arith}
use borrow.Author.Tests.{lt-ltb, le-ltb}
use lib.Dec.{T, ltb, ltb→lt}
use lib.ListN.{length, get_or, take, drop, length-map}
use lib.Seq.{get_or-append-add, get_or-drop, length-take-le}
use Rattle.numbers.specs.Numbers.{num, tab}
use Rattle.numbers.proofs.NumberLaws.{length-tab, get_or-tab}
use Rattle.ends.specs.Ends.{million, down, up, count_of, Split, BothSplit}
use Rattle.ends.specs.declared.End.{End}
use Rattle.ends.specs.declared.Ends.{Ends}
use Rattle.ends.proofs.EndLaws.{count-whole, count_millionths}
use Rattle.predicates.specs.Lists.{In}
use Rattle.predicates.specs.Predicates.{holds}
use Rattle.predicates.proofs.ListLaws.{cond_ind, true_T}
use Rattle.predicates.proofs.IndexLaws.{get_or_map, in_at}
use Rattle.state.specs.Model.{Datum, Store, end_limit, last_whole}
use Rattle.state.specs.Layout.{zeros, datum_place, left_millionths_in, right_millionths_in, right_in, held_count, entry_count, datum_at, store_of, own_at}
use Rattle.state.specs.Form.{in_form}
use Rattle.state.specs.code.Tables.{ends_at}
use Rattle.state.proofs.StateLaws.{length-held, length-entries, held_count_le, form-datum, datum_at_ok}
use Rattle.state.proofs.FormLaws.{ends_split}
use Rattle.state.proofs.OkLaws.{OkDatum, ok_datum_out}
use Rattle.state.proofs.StoreLaws.{column_front}
use Rattle.search.specs.declared.rows.Span.{Span}
use Rattle.search.specs.code.Search.{Rows}
use Rattle.search.specs.code.LeftEnds.{lefts_of, rights_of}
use Rattle.claims.specs.declared.keys.Scale.{Scale}
use Rattle.claims.specs.declared.keys.Scale.TheVariants.{Counts, Ranks}
use Rattle.claims.specs.code.Keys.{least_whole, base_of, greatest_whole, top_of, count_limit, countable, scale_by, scale_of, below, parts_most, rank_step, rank_key, millionths_at, parts_of}
use Rattle.claims.specs.code.Keys.{Counted, count_from, key_by, start_of, step_of, down_by, up_by, key_of, last_key, map_ends, mapped, keyed}
use Rattle.claims.specs.code.Tables.{entry_claim, claim_at, claim_left, claim_right, claim_span, Loaded, Bounded}
use Rattle.claims.proofs.TableLaws.{claim_entry, claim_datum, datum_claim, left-stored, right-stored, ends-long}

-- ---- the first and the last whole microsecond

module _ (s : List ℕ) where
  least-last : (n : ℕ) → least_whole n s ≤ last_whole
  unfolding least_whole
  least-last zero = omega arith
  least-last (suc n) = omega (arith, least-last n)

  least_le : (n i : ℕ) → i < n → least_whole n s ≤ num (datum_place i) 8 s
  unfolding least_whole
  least_le zero i h = absurd (omega arith)
  least_le (suc n) i h = go (λ a. least_le n i a) (ℕ_discrete i n)
    where
      go : (i < n → least_whole n s ≤ num (datum_place i) 8 s) → Dec (i ≡ n) → min (least_whole n s) (num (datum_place n) 8 s) ≤ num (datum_place i) 8 s
      go f (yes q) = rw q (omega arith)
      go f (no q) = omega (arith, f (omega arith))

  greatest_le : (n i : ℕ) → i < n → num (datum_place i + right_in) 8 s ≤ greatest_whole n s
  unfolding greatest_whole
  greatest_le zero i h = absurd (omega arith)
  greatest_le (suc n) i h = go (λ a. greatest_le n i a) (ℕ_discrete i n)
    where
      go : (i < n → num (datum_place i + right_in) 8 s ≤ greatest_whole n s) → Dec (i ≡ n) → num (datum_place i + right_in) 8 s ≤ max (greatest_whole n s) (num (datum_place n + right_in) 8 s)
      go f (yes q) = rw q (omega arith)
      go f (no q) = omega (arith, f (omega arith))

  pub base_last : base_of s ≤ last_whole
  unfolding base_of
  base_last = least-last (held_count s)

  pub scale_last : (scale : Scale) → scale ≡ scale_of s → start_of scale ≤ last_whole
  unfolding scale_of
  scale_last scale e = rw e (go (countable s))
    where
      go : (b : Bool) → start_of (scale_by b (base_of s)) ≤ last_whole
      go true = base_last
      go false = omega arith

  -- the loop that looks for both
  pub least_next : (i r x least : ℕ) → least ≡ least_whole i s → x ≡ num (datum_place i) 8 s → r ≡ min least x → r ≡ least_whole (i + 1) s
  unfolding least_whole
  least_next i r x least e f g = rw (add-one i) (omega arith)

  pub greatest_next : (i r x last : ℕ) → last ≡ greatest_whole i s → x ≡ num (datum_place i + right_in) 8 s → r ≡ max last x → r ≡ greatest_whole (i + 1) s
  unfolding greatest_whole
  greatest_next i r x last e f g = rw (add-one i) (omega arith)

  -- counts fit, or they do not
  pub counts_fit : (first last : ℕ) → first ≡ base_of s → last ≡ top_of s → last < first + count_limit → countable s ≡ true
  unfolding countable
  counts_fit first last e f h = lt-ltb (top_of s) (base_of s + count_limit) (omega arith)

  pub counts_pass : (first last : ℕ) → first ≡ base_of s → last ≡ top_of s → first + count_limit ≤ last → countable s ≡ false
  unfolding countable
  counts_pass first last e f h = le-ltb (top_of s) (base_of s + count_limit) (omega arith)

  pub scale_counted : (base : ℕ) → base ≡ base_of s → countable s ≡ true → Counts base ≡ scale_of s
  unfolding scale_of
  scale_counted base e c = rw (e, c)

  pub scale_ranked : countable s ≡ false → Ranks 0 ≡ scale_of s
  unfolding scale_of
  scale_ranked c = rw c

-- ---- ranks

module _ (l : List ℕ) where
  -- one number more
  step_one : (p x : ℕ) → cond (ltb p x) 1 0 ≤ 1
  step_one p x = cond_ind (λ (v : ℕ). v ≤ 1) (ltb p x) 1 0 (λ _. omega arith) (λ _. omega arith)

  step_le : (p x y : ℕ) → x ≤ y → cond (ltb p x) 1 0 ≤ cond (ltb p y) 1 0
  step_le p x y h = go (dec_lt p x)
    where
      go : Dec (p < x) → cond (ltb p x) 1 0 ≤ cond (ltb p y) 1 0
      go (yes a) = rw (lt-ltb p x a, lt-ltb p y (omega arith)) (omega arith)
      go (no a) = rw (le-ltb p x (omega arith)) (omega arith)

  pub below_le : (n x : ℕ) → below n l x ≤ n
  unfolding below
  below_le zero x = omega arith
  below_le (suc n) x = omega (arith, below_le n x, step_one (get_or l n 0) x)

  below_zero : (n : ℕ) → below n l 0 ≡ 0
  unfolding below
  below_zero zero = refl
  below_zero (suc n) = rw (le-ltb (get_or l n 0) 0 (omega arith)) (omega (arith, below_zero n))

  below_mono : (n x y : ℕ) → x ≤ y → below n l x ≤ below n l y
  unfolding below
  below_mono zero x y h = omega arith
  below_mono (suc n) x y h = omega (arith, below_mono n x y h, step_le (get_or l n 0) x y h)

  -- x itself lies below y and not below x
  below_less : (n x y i : ℕ) → i < n → get_or l i 0 ≡ x → x < y → below n l x < below n l y
  unfolding below
  below_less zero x y i h e k = absurd (omega arith)
  below_less (suc n) x y i h e k = go (λ a. below_less n x y i a e k) (ℕ_discrete i n)
    where
      go : (i < n → below n l x < below n l y) → Dec (i ≡ n) → below n l x + cond (ltb (get_or l n 0) x) 1 0 < below n l y + cond (ltb (get_or l n 0) y) 1 0
      go f (yes q) =
          let here : get_or l n 0 ≡ x = rw q at e in
          rw (here, le-ltb x x (omega arith), lt-ltb x y k) (omega (arith, below_mono n x y (omega arith)))
      go f (no q) = omega (arith, f (omega arith), step_le (get_or l n 0) x y (omega arith))

-- the loop that counts
module _ (l : List ℕ) (x j r : ℕ) (e : r ≡ below j l x) where
  pub rank-more : get_or l j 0 < x → r + 1 ≡ below (j + 1) l x
  unfolding below
  rank-more h = rw (add-one j, lt-ltb (get_or l j 0) x h) (omega arith)

  pub rank_same : x ≤ get_or l j 0 → r ≡ below (j + 1) l x
  unfolding below
  rank_same h = rw (add-one j, le-ltb (get_or l j 0) x h) (omega arith)

-- ---- keys with ranks

-- the millionths of x are a part
abbrev pub Ranked : List ℕ → ℕ → Type 0
Ranked parts x = (i : ℕ) × (i < parts_most) × (get_or parts i 0 ≡ x % million)

module _ (parts : List ℕ) (x : ℕ) where
  rank_less : (y : ℕ) → Ranked parts x → x < y → rank_key parts x < rank_key parts y
  unfolding rank_key
  rank_less y r h = go (dec_lt (x / million) (y / million))
    where
      go : Dec (x / million < y / million) → x / million * rank_step + below parts_most parts (x % million) < y / million * rank_step + below parts_most parts (y % million)
      go (yes a) = omega (arith, below_le parts parts_most (x % million))
      go (no a) =
          let less : x % million < y % million = omega arith in
          omega (arith, below_less parts parts_most (x % million) (y % million) r.0 r.1 r.2 less)

  rank_down : rank_key parts x / rank_step ≡ down x
  unfolding rank_key
  rank_down = omega (arith, below_le parts parts_most (x % million))

  rank_up : get_or parts 35 0 ≡ 0 → (rank_key parts x + 63) / rank_step ≡ up x
  unfolding rank_key
  rank_up z = go (ℕ_discrete (x % million) 0)
    where
      go : Dec (x % million ≡ 0) → (x / million * rank_step + below parts_most parts (x % million) + 63) / rank_step ≡ up x
      go (yes a) = rw a (omega (arith, below_zero parts parts_most))
      go (no a) =
          omega (arith, below_le parts parts_most (x % million), below_less parts parts_most 0 (x % million) 35 (omega arith) z (omega arith))

  rank-last : x < end_limit → rank_key parts x ≤ last_key
  unfolding rank_key
  rank-last h = go (dec_lt (x / million) last_whole)
    where
      go : Dec (x / million < last_whole) → x / million * rank_step + below parts_most parts (x % million) ≤ last_key
      go (yes a) = omega (arith, below_le parts parts_most (x % million))
      go (no a) = let none : x % million ≡ 0 = omega arith in rw none (omega (arith, below_zero parts parts_most))

-- as the code makes it
pub key_made : (parts : List ℕ) (e : End) (r : ℕ) → Split e → r ≡ below parts_most parts e.millionths → e.whole * rank_step + r ≡ rank_key parts (count_of e)
unfolding rank_key
key_made parts e r s q = rw (q, count-whole e.whole e.millionths s, count_millionths e.whole e.millionths s)

-- ---- what the code reads

module _ (f : ℕ → ℕ) (s : List ℕ) (n i : ℕ) (ends : Ends) (r : ℕ) (l : n ≤ i) (e : ends ≡ ends_at s (i - n)) where
  pub claim_left_lem : r ≡ f (count_of ends.left) → r ≡ claim_left f s n i
  unfolding claim_left datum_at ends_at
  claim_left_lem q = rw (le-ltb i n l) (rw e at q)

  pub claim_right_lem : r ≡ f (count_of ends.right) → r ≡ claim_right f s n i
  unfolding claim_right datum_at ends_at
  claim_right_lem q = rw (le-ltb i n l) (rw e at q)

-- both keys of a claim, as they are stored
abbrev span-from : ℕ → ℕ → Span
span-from a b = record { left = a; right = b }

span-of : (a b c d : ℕ) → a ≡ c → b ≡ d → span-from a b ≡ span-from c d
span-of a b c d p q = rw (p, q)

pub entry-span : (f : ℕ → ℕ) (s : List ℕ) (n i : ℕ) (v : Span) → i < n → (v.left ≡ 1) × (v.right ≡ 0) → v ≡ claim_span f s n i
unfolding claim_left claim_right
entry-span f s n i v h e = rw (lt-ltb i n h) (span-of v.left v.right 1 0 e.0 e.1)

pub datum-span : (f : ℕ → ℕ) (s : List ℕ) (n i a b : ℕ) (ends : Ends) → n ≤ i → ends ≡ ends_at s (i - n) → a ≡ f (count_of ends.left)
    → b ≡ f (count_of ends.right) → span-from a b ≡ claim_span f s n i
datum-span f s n i a b ends l e p q =
    span-of a b (claim_left f s n i) (claim_right f s n i) (claim_left_lem f s n i ends a l e p) (claim_right_lem f s n i ends b l e q)

-- counts are the keys where they fit, and ranks where they do not
pub counts_key : (s : List ℕ) (base : ℕ) → Counted s base → (x : ℕ) → count_from base x ≡ key_of s x
unfolding key_of scale_of
counts_key s base c x = rw (c.0, c.1)

pub ranks_key : (s l : List ℕ) → countable s ≡ false → l ≡ parts_of s → (x : ℕ) → rank_key l x ≡ key_of s x
unfolding key_of scale_of
ranks_key s l c e x = rw (c, e)

pub parts-made : (s p : List ℕ) (h : ℕ) → h ≡ held_count s → h ≤ 16 → p ≡ tab (length (take (h * 2) (zeros parts_most))) (millionths_at s)
    → p ++ drop (h * 2) (zeros parts_most) ≡ parts_of s
unfolding parts_of
parts-made s p h e few q =
    let long : length (take (h * 2) (zeros parts_most)) ≡ h * 2 = length-take-le (h * 2) (zeros parts_most) (omega arith) in
    rw (q, long, e)

-- ---- keys of a state in form

module _ (s : List ℕ) (t : T (in_form s)) where
  abbrev ends : ℕ
  ends = held_count s * 2

  abbrev scale : Bool → Scale
  scale b = scale_by b (base_of s)

  -- x is not before the base
  abbrev pub Based : ℕ → Type 0
  Based x = base_of s * million ≤ x

  few : ends ≤ 32
  few = omega (arith, held_count_le s t)

  part_at : (j : ℕ) → j < ends → get_or (parts_of s) j 0 ≡ millionths_at s j
  unfolding parts_of
  part_at j h = column_front (millionths_at s) ends j (zeros parts_most) (parts_of s) refl h

  -- 0 is the last part
  pub part_last : get_or (parts_of s) 35 0 ≡ 0
  unfolding parts_of
  part_last =
      let front = tab ends (millionths_at s) in
      let place : 35 ≡ length front + (35 - ends) = omega (arith, length-tab ends (millionths_at s), few) in
      let back : ends + (35 - ends) ≡ 35 = omega (arith, few) in
      ap (λ (j : ℕ). get_or (parts_of s) j 0) place ∙ get_or-append-add front (drop ends (zeros parts_most)) (35 - ends) 0
      ∙ get_or-drop ends (zeros parts_most) (35 - ends) 0 ∙ ap (λ (j : ℕ). get_or (zeros parts_most) j 0) back

  module _ (x : ℕ) where
    pub key_less : (y : ℕ) → Ranked (parts_of s) x → Based x → x < y → key_of s x < key_of s y
    unfolding key_of scale_of
    key_less y r f h = go (countable s)
      where
        go : (b : Bool) → key_by (scale b) (parts_of s) x < key_by (scale b) (parts_of s) y
        go true = omega arith
        go false = rank_less (parts_of s) x y r h

    pub key_down : Based x → down_by (scale_of s) (key_of s x) ≡ down x
    unfolding key_of scale_of
    key_down f = go (countable s)
      where
        go : (b : Bool) → down_by (scale b) (key_by (scale b) (parts_of s) x) ≡ down x
        go true = omega arith
        go false = omega (arith, rank_down (parts_of s) x)

    pub key_up : Based x → up_by (scale_of s) (key_of s x) ≡ up x
    unfolding key_of scale_of
    key_up f = go (countable s)
      where
        go : (b : Bool) → up_by (scale b) (key_by (scale b) (parts_of s) x) ≡ up x
        go true = omega arith
        go false = omega (arith, rank_up (parts_of s) x part_last)

  -- what is left above a key
  pub key_low : (k : ℕ) → k + step_of (scale_of s) ≤ 2 ^ 64 → k ≤ last_key
  unfolding scale_of
  key_low k = go (countable s)
    where
      go : (b : Bool) → k + step_of (scale b) ≤ 2 ^ 64 → k ≤ last_key
      go true h = omega arith
      go false h = omega arith

  module _ (i : ℕ) (h : i < held_count s) where
    split : BothSplit (ends_at s i)
    split = ends_split (num own_at 4 s) s i (form-datum s t i h)

    ranked_left : Ranked (parts_of s) (datum_at s i).left
    unfolding datum_at ends_at millionths_at
    ranked_left =
        let a : i * 2 / 2 ≡ i = omega arith in
        let b : i * 2 % 2 ≡ 0 = omega arith in
        let place : datum_place i + left_millionths_in + 0 * 4 ≡ datum_place i + left_millionths_in = omega arith in
        (i * 2, omega (arith, few), part_at (i * 2) (omega arith) ∙ rw (a, b, place) (sym (count_millionths (num (datum_place i) 8 s) _ split.0)))

    ranked_right : Ranked (parts_of s) (datum_at s i).right
    unfolding datum_at ends_at millionths_at
    ranked_right =
        let a : (i * 2 + 1) / 2 ≡ i = omega arith in
        let b : (i * 2 + 1) % 2 ≡ 1 = omega arith in
        let place : datum_place i + left_millionths_in + 1 * 4 ≡ datum_place i + right_millionths_in = omega arith in (
          i * 2 + 1,
          omega (arith, few),
          part_at (i * 2 + 1) (omega arith) ∙ rw (a, b, place) (sym (count_millionths (num (datum_place i + right_in) 8 s) _ split.1)),
        )

    ok : OkDatum (num own_at 4 s) (datum_at s i)
    ok = ok_datum_out (num own_at 4 s) (datum_at s i) (datum_at_ok s t i h)

    base_left : base_of s ≤ num (datum_place i) 8 s
    unfolding base_of
    base_left = least_le s (held_count s) i h

    based : (x : ℕ) → (datum_at s i).left ≤ x → Based x
    unfolding datum_at
    based x l = omega (arith, base_left)

    counted-right : countable s ≡ true → num (datum_place i + right_in) 8 s < base_of s + count_limit
    unfolding countable top_of
    counted-right e = omega (arith, greatest_le s (held_count s) i h, ltb→lt (greatest_whole (held_count s) s) (base_of s + count_limit) (true_T _ e))

    -- what a key is made of
    pub ends-stored : (e : Ends) → e ≡ ends_at s i
        → (Split e.left × (e.left.whole ≤ last_whole)) × (Split e.right × (e.right.whole ≤ last_whole))
    unfolding datum_at ends_at
    ends-stored e q =
        let a = ok.ends in
        let b = ok.below in
        rw q ((split.0, omega arith), (split.1, omega arith))

    pub ends-counted : (e : Ends) → e ≡ ends_at s i → (base : ℕ) → Counted s base
        → ((base ≤ e.left.whole) × (e.left.whole < base + count_limit)) × ((base ≤ e.right.whole) × (e.right.whole < base + count_limit))
    unfolding datum_at ends_at
    ends-counted e q base c =
        let a = ok.ends in
        let b = counted-right c.0 in
        let d = base_left in
        let p = split.0 in
        let r = split.1 in
        rw (q, c.1) ((omega arith, omega arith), (omega arith, omega arith))

    room : (x : ℕ) → x ≤ (datum_at s i).right → key_of s x + step_of (scale_of s) ≤ 2 ^ 64
    unfolding key_of scale_of datum_at ends_at
    room x l = go (countable s) counted-right
      where
        go : (b : Bool) → (b ≡ true → num (datum_place i + right_in) 8 s < base_of s + count_limit) → key_by (scale b) (parts_of s) x + step_of (scale b) ≤ 2 ^ 64
        go true f = omega (arith, f refl, split.1)
        go false f = omega (arith, rank-last (parts_of s) x (omega (arith, ok.below)))

  -- every end held has a key
  abbrev pub Keyed : ℕ → Type 0
  Keyed x = Ranked (parts_of s) x × (key_of s x + step_of (scale_of s) ≤ 2 ^ 64) × Based x

  pub datum-keyed : (i : ℕ) → i < held_count s → Keyed (datum_at s i).left × Keyed (datum_at s i).right
  datum-keyed i h = (
    (ranked_left i h, room i h (datum_at s i).left (ok i h).ends, based i h (datum_at s i).left (omega arith)),
    (ranked_right i h, room i h (datum_at s i).right (omega arith), based i h (datum_at s i).right (ok i h).ends),
  )

  pub held-keyed : (d : Datum) → In d (store_of s).held → Keyed d.left × Keyed d.right
  unfolding store_of
  held-keyed d m =
      let w = in_at (tab (held_count s) (datum_at s)) d d m in
      let h : w.0 < held_count s = omega (arith, w.1, length-tab (held_count s) (datum_at s)) in
      let e : d ≡ datum_at s w.0 = w.2 ∙ get_or-tab (held_count s) w.0 (datum_at s) d h in
      rw e (datum-keyed w.0 h)

-- ---- the claims of a store with f of its ends

module _ (f : ℕ → ℕ) (k : Store) where
  abbrev n : ℕ
  n = length k.entries

  pub mapped_entry : (i : ℕ) → i < n → claim_at (mapped f k) i ≡ claim_at k i
  unfolding mapped
  mapped_entry i h = claim_entry (mapped f k) i h ∙ sym (claim_entry k i h)

  mapped-datum : (j : ℕ) → j < length k.held → claim_at (mapped f k) (n + j) ≡ map_ends f (claim_at k (n + j))
  unfolding mapped
  mapped-datum j h =
      claim_datum (mapped f k) j ∙ get_or_map (map_ends f) k.held (entry_claim []) (entry_claim []) j h ∙ ap (map_ends f) (sym (claim_datum k j))

  mapped-terms : (i : ℕ) → i < n + length k.held → (claim_at (mapped f k) i).terms ≡ (claim_at k i).terms
  mapped-terms i h = go (dec_lt i n)
    where
      go : Dec (i < n) → (claim_at (mapped f k) i).terms ≡ (claim_at k i).terms
      go (yes a) = ap (λ (d : Datum). d.terms) (mapped_entry i a)
      go (no a) =
          let place : n + (i - n) ≡ i = omega arith in
          ap (λ (d : Datum). d.terms) (rw place at (mapped-datum (i - n) (omega arith)))

  pub mapped_loaded : {m rows : ℕ} {table : Rows} → Loaded k m rows table → Loaded (mapped f k) m rows table
  unfolding mapped
  mapped_loaded {m} w =
      record {
        entries_are = w.entries_are;
        rows_are = w.rows_are ∙ ap (λ (h : ℕ). m + h) (sym (length-map k.held (map_ends f)));
        means = λ i h s. w.means i h s ∙ ap (holds s) (sym (mapped-terms i (omega (arith, w.rows_are, w.entries_are))));
        parted = w.parted;
      }

-- ---- the keys in the arrays

module _ (s : List ℕ) (t : T (in_form s)) (n rows : ℕ) (a : n ≡ entry_count s) (e : rows ≡ n + held_count s) where
  -- claim i, and the keys of its ends
  record Keys (i : ℕ) : Type 0 where
    left : claim_left (key_of s) s n i ≡ (claim_at (keyed s) i).left
    right : claim_right (key_of s) s n i ≡ (claim_at (keyed s) i).right
    left-low : claim_left (key_of s) s n i ≤ last_key
    right-low : claim_right (key_of s) s n i ≤ last_key

  keys : (i : ℕ) → i < rows → Keys i
  unfolding claim_left claim_right keyed
  keys i h = go (dec_lt i n)
    where
      f : ℕ → ℕ
      f = key_of s

      go : Dec (i < n) → Keys i
      go (yes l) =
          let first = lt-ltb i n l in
          let known : i < length (store_of s).entries = omega (arith, length-entries s) in
          let claim = mapped_entry f (store_of s) i known ∙ claim_entry (store_of s) i known in
          record { left = rw (first, claim); right = rw (first, claim); left-low = rw first (omega arith); right-low = rw first (omega arith) }
      go (no l) =
          let later = le-ltb i n (omega arith) in
          let j = i - n in
          let held : j < held_count s = omega arith in
          let place : length (store_of s).entries + j ≡ i = omega (arith, length-entries s) in
          let count : entry_count s + j ≡ i = omega arith in
          let datum : claim_at (store_of s) i ≡ datum_at s j = rw count at (datum_claim s j held) in
          let claim : claim_at (mapped f (store_of s)) i ≡ map_ends f (datum_at s j) =
          rw (place, datum) at (mapped-datum f (store_of s) j (omega (arith, length-held s))) in
          let small = datum-keyed s t j held in
          record { left = rw (later, claim); right = rw (later, claim); left-low = rw later (key_low s t _ small.0.1); right-low = rw later (key_low s t _ small.1.1) }

  module _ (ends : List Span) (p : ends ≡ tab rows (claim_span (key_of s) s n)) where
    left-key : (i : ℕ) → i < rows → get_or (lefts_of ends) i 0 ≡ claim_left (key_of s) s n i
    left-key = left-stored rows (claim_span (key_of s) s n) ends p

    right-key : (i : ℕ) → i < rows → get_or (rights_of ends) i 0 ≡ claim_right (key_of s) s n i
    right-key = right-stored rows (claim_span (key_of s) s n) ends p

    pub bounded_in : Bounded (keyed s) rows (lefts_of ends) (rights_of ends)
    bounded_in =
        record {
          lefts-long = omega (arith, (ends-long rows (claim_span (key_of s) s n) ends p).0);
          rights-long = omega (arith, (ends-long rows (claim_span (key_of s) s n) ends p).1);
          left_is = λ i h. left-key i h ∙ (keys i h).left;
          right_is = λ i h. right-key i h ∙ (keys i h).right;
        }

    pub keys_low : (i : ℕ) → i < rows → (get_or (lefts_of ends) i 0 ≤ last_key) × (get_or (rights_of ends) i 0 ≤ last_key)
    keys_low i h = (omega (arith, left-key i h, (keys i h).left-low), omega (arith, right-key i h, (keys i h).right-low))
