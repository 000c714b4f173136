-- `withdrawing::withdraw` meets its contract: the rows hold what is held and the table what is known once the names are withdrawn, and `put_rows` writes
-- them.
use Prim.Native.Nat.{ℕ, ◌≤◌}
use mathlib.Core.Path.{◌≡◌, ap, ap₂, ◌∙◌}
use mathlib.Core.List.{List}
use native.Mathlib.Omega.{arith}
use lib.ListN.{length, take, length-take}
use Rattle.std.proofs.lemmas.List.{length-take-le, length-map}
use Rattle.numbers.specs.Numbers.{put, tab}
use Rattle.numbers.proofs.NumberLaws.{length-tab}
use Rattle.state.specs.Model.{Datum, Store}
use Rattle.state.specs.Layout.{head_of, store_of, state_bytes}
use Rattle.state.specs.code.Tables.{table, datum_in, store_in}
use Rattle.state.proofs.RowLaws.{table_less}
use Rattle.state.proofs.StateLaws.{held_count_le, entry_count_le}
use Rattle.state.proofs.StoreLaws.{table-fresh, table-front, entries-front}
use Rattle.steps.specs.Withdrawn.{withdrawn}
use Rattle.withdrawing.proofs.withdraw.Goals as goal
use Rattle.withdrawing.proofs.withdraw.Goals.{After-get_entries-n}

-- as many as there are rows
rows-length : {A : Type 0} (n : ℕ) (f : ℕ → A) (l : List A) → l ≡ tab n f → length l ≡ n
rows-length n f l e = ap length e ∙ length-tab n f

pub get_withdrawn-h-requires : goal.get_withdrawn-h-requires
get_withdrawn-h-requires c = (c.requires.0, c.requires.1, held_count_le c.args.s.now c.requires.1)

pub get_entries-n-requires : goal.get_entries-n-requires
get_entries-n-requires c =
    let few = entry_count_le c.args.s.now c.requires.1 in
    record { state_size_in_bounds = c.requires; table_fits = table-fresh 16 _ 32 512 few (omega arith) }

-- as many as there are entries
lent : (c : After-get_entries-n) → length (take c.get_entries-n.result c.get_entries-n.new.counts) ≡ c.get_entries-n.result
lent c = length-take-le c.get_entries-n.result c.get_entries-n.new.counts (omega (arith, c.get_entries-n.ensures.upper_bound.1.counted, c.get_entries-n.ensures.upper_bound.0))

pub slice_bounds-held-end : goal.slice_bounds-held-end
slice_bounds-held-end c = omega (arith, c.get_withdrawn-h.ensures.upper_bound.0, held_count_le c.args.s.now c.requires.1)

pub slice_bounds-put_rows-end : goal.slice_bounds-put_rows-end
slice_bounds-put_rows-end c =
    omega (arith, c.get_withdrawn-h.ensures.upper_bound.0, held_count_le c.args.s.now c.requires.1, length-take c.get_withdrawn-h.result c.get_withdrawn-h.new.held)

pub put_rows-requires : goal.put_rows-requires
put_rows-requires c =
    let known = c.get_entries-n.ensures in
    let rows = c.get_withdrawn-h.ensures in
    let e = lent (goal.at.put_rows-requires c).After-get_entries-n in
    let n = entry_count_le c.args.s.now c.requires.1 in
    let h = held_count_le c.args.s.now c.requires.1 in
    let held = take c.get_withdrawn-h.result c.get_withdrawn-h.new.held in
    let few : length held ≤ 16 = omega (arith, length-take c.get_withdrawn-h.result c.get_withdrawn-h.new.held, rows.upper_bound.0) in
    rw e record {
      fit = (rows.upper_bound.1, omega arith, omega (arith, e, known.upper_bound.0));
      table_fits = table-front 16 _ _ _ (table_less 16 _ _ _ _ known.upper_bound.1 known.upper_bound.0);
      few = omega (arith, ap length rows.fact.1, length-map held datum_in);
      masks_len_bound = omega (
        arith,
        ap length (entries-front c.get_entries-n.result c.get_entries-n.new.counts c.get_entries-n.new.masks),
        rows-length _ _ _ known.fact.1,
        known.upper_bound.0,
      );
      form = c.requires;
    }

-- what the rows hold is the store of the definition
same : (c : After-get_entries-n) → let g = c.get_withdrawn-h in let k = c.get_entries-n in
    store_in (take g.result g.new.held) (length (take k.result k.new.counts)) (table (take k.result k.new.counts) k.new.masks)
    ≡ withdrawn c.args.risen (store_of c.args.s.now)
unfolding store_in withdrawn
same c =
    let rows = c.get_withdrawn-h.ensures in
    let known = c.get_entries-n.ensures in
    rw (lent c)
    (ap₂ (λ (x : List Datum) (y : List (List ℕ)). record { held = x; entries = y }) (rows.fact.1 ∙ rows.fact.0)
    (entries-front c.get_entries-n.result c.get_entries-n.new.counts c.get_entries-n.new.masks ∙ known.fact.1 ∙ known.fact.0))

pub returns : goal.returns
returns c =
    c.put_rows.ensures
    ∙ ap (λ (k : Store). put 0 (state_bytes (record { head = head_of c.args.s.now; store = k })) c.args.s.now) (same (goal.at.returns c).After-get_entries-n)
