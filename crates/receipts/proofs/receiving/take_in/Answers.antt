-- `receipts::receiving::take_in` meets its contract: in form, the rows hold what the state holds (`data_form`), the entries stand in its bytes, the four
-- steps are taken (`settle`), and what they leave is counted (`many_live`) and then written.
use Prim.Native.Nat.{ℕ, ◌≤◌}
use mathlib.Core.Path.{◌≡◌, refl, sym, ap, subst, ◌∙◌}
use mathlib.Core.Bool.{◌||◌}
use mathlib.Core.List.{List, ◌++◌, map}
use native.Mathlib.Omega.{arith}
use lib.Dec.{ltb}
use lib.ListN.{length, take, drop, replicate}
use lib.Seq.{length-take-le}
use Rattle.std.specs.Prelude.{All}
use Rattle.numbers.specs.Numbers.{tab}
use Rattle.numbers.proofs.NumberLaws.{length-tab}
use Rattle.state.specs.Model.{Datum}
use Rattle.state.specs.Layout.{store_of, held_count, entry_count}
use Rattle.state.specs.Refusal.{after}
use Rattle.state.specs.declared.holding.Held.{Held}
use Rattle.state.specs.code.Tables.{table_from, datum_of, datum_row, datum_in, data_in, HeldFits, DataStand, TableFits, store_in}
use Rattle.state.proofs.StateLaws.{held_count_le, entry_count_le}
use Rattle.state.proofs.StoreLaws.{table_awaiting, rows-fit, data_rows, data_standing, data_form}
use Rattle.settling.specs.code.Rows.{with_term}
use Rattle.steps.specs.Steps.{settled, too_many}
use Rattle.receipts.specs.code.Blame.{blamed_by}
use Rattle.settling.proofs.OutcomeLaws.{entries-live, many_live, few-counts}
use Rattle.receipts.proofs.ReceivingLaws.{few_taken, length-read, rows_front, data_front, entries_stand_front, table_lent, entries_lent, store_lent}
use Rattle.receipts.proofs.receiving.take_in.Goals as goal
use Rattle.receipts.proofs.receiving.take_in.Goals.{After-count-live, After-settle-left, After-get_data, Start}

-- in form, at most 16 data and 32 entries
few : (a : Start) → (a.args.old.held ≤ 16) × (a.args.old.known ≤ 32)
few a =
    (omega (arith, a.requires.held_value.0, held_count_le a.args.state.now a.requires.state_size_in_bounds.1), omega (arith, a.requires.held_value.1, entry_count_le a.args.state.now a.requires.state_size_in_bounds.1))

pub slice_bounds-held-end : goal.slice_bounds-held-end
slice_bounds-held-end c = omega (arith, few (goal.at.slice_bounds-held-end c).Start)

pub slice_bounds-get_data-end : goal.slice_bounds-get_data-end
slice_bounds-get_data-end c = sym (length-take-le _ _ (omega (arith, few (goal.at.slice_bounds-get_data-end c).Start)))

pub get_data-requires : goal.get_data-requires
get_data-requires c =
    let some = few (goal.at.get_data-requires c).Start in
    (c.requires.state_size_in_bounds.0, few_taken c.args.old.held 16 _ some.0)

-- the rows as they were made
fresh : After-get_data → List Held
fresh c = replicate 17 c.none-held.result

-- those in use have been read
front : (c : After-get_data) → c.args.old.held ≤ 16 → let h = c.args.old.held in take h (c.get_data.new.held ++ drop h (fresh c)) ≡ tab (held_count c.args.state.now) (datum_row c.args.state.now)
unfolding fresh
front c few =
    rows_front c.args.state.now c.args.old.held (fresh c) c.get_data.new.held c.requires.held_value.0 (omega (arith, few)) c.get_data.ensures

-- there are as many as were made
long : (c : After-get_data) → c.args.old.held ≤ 16 → let h = c.args.old.held in length (c.get_data.new.held ++ drop h (fresh c)) ≡ 17
unfolding fresh
long c few = length-read c.args.state.now c.args.old.held (fresh c) c.get_data.new.held c.requires.held_value.0 (omega (arith, few)) c.get_data.ensures

pub settle-left-requires-clause-fit : goal.settle-left-requires-clause-fit
unfolding fresh
settle-left-requires-clause-fit c =
    let s = c.args.state.now in
    let at = (goal.at.settle-left-requires-clause-fit c).After-get_data in
    let some = few (goal.at.settle-left-requires-clause-fit c).Start in (
      subst (λ (l : List Held). All HeldFits l) (sym (front at some.0)) (rows-fit s c.requires.state_size_in_bounds.1 (held_count s) (omega arith)),
      omega (arith, some.0, long at some.0),
      c.requires.p_nonzero.3,
    )

pub settle-left-requires-clause-table_fits : goal.settle-left-requires-clause-table_fits
settle-left-requires-clause-table_fits c =
    let some = few (goal.at.settle-left-requires-clause-table_fits c).Start in
    table_awaiting c.args.old.known _ 48 c.args.state.now c.args.masks.now (omega (arith, some.0, some.1)) (omega (arith, c.requires.p_nonzero.2))

pub settle-left-requires-clause-p_nonzero : goal.settle-left-requires-clause-p_nonzero
settle-left-requires-clause-p_nonzero c =
    let some = few (goal.at.settle-left-requires-clause-p_nonzero c).Start in
    (c.requires.p_nonzero.0, c.requires.p_nonzero.1, omega (arith, some.0, some.1))

pub settle-left-requires-clause-all_held : goal.settle-left-requires-clause-all_held
unfolding fresh
settle-left-requires-clause-all_held c =
    let s = c.args.state.now in
    let form = c.requires.state_size_in_bounds.1 in
    let read = front (goal.at.settle-left-requires-clause-all_held c).After-get_data (few (goal.at.settle-left-requires-clause-all_held c).Start).0 in
    ap (λ (l : List Held). map datum_in l) read ∙ data_rows s form ∙ sym (ap data_in read ∙ data_form s form)

pub slice_bounds-held-end-2 : goal.slice_bounds-held-end-2
unfolding fresh
slice_bounds-held-end-2 c =
    let u = c.settle-left.ensures in
    omega (arith, u.held_bound.0, u.held_bound.2 ∙ long (goal.at.slice_bounds-held-end-2 c).After-get_data (few (goal.at.slice_bounds-held-end-2 c).Start).0, few (goal.at.slice_bounds-held-end-2 c).Start)

pub slice_bounds-held-end-3 : goal.slice_bounds-held-end-3
unfolding fresh
slice_bounds-held-end-3 c =
    let u = c.settle-left.ensures in
    omega (arith, u.held_bound.0, u.held_bound.2 ∙ long (goal.at.slice_bounds-held-end-3 c).After-get_data (few (goal.at.slice_bounds-held-end-3 c).Start).0, few (goal.at.slice_bounds-held-end-3 c).Start)

pub slice_bounds-count-end : goal.slice_bounds-count-end
unfolding fresh
slice_bounds-count-end c =
    let u = c.settle-left.ensures in
    sym (length-take-le _ _ (omega (arith, u.held_bound.0, u.held_bound.2 ∙ long (goal.at.slice_bounds-count-end c).After-get_data (few (goal.at.slice_bounds-count-end c).Start).0, few (goal.at.slice_bounds-count-end c).Start)))

pub slice_bounds-put_store-end : goal.slice_bounds-put_store-end
unfolding fresh
slice_bounds-put_store-end c =
    let u = c.settle-left.ensures in
    sym (length-take-le _ _ (omega (arith, u.held_bound.0, u.held_bound.2 ∙ long (goal.at.slice_bounds-put_store-end c).After-get_data (few (goal.at.slice_bounds-put_store-end c).Start).0, few (goal.at.slice_bounds-put_store-end c).Start)))

-- the data that were read
read : (c : After-get_data) → c.args.old.held ≤ 16
    → data_in (take c.args.old.held (c.get_data.new.held ++ drop c.args.old.held (replicate 17 c.none-held.result))) ≡ (store_of c.args.state.now).held
unfolding fresh
read c few = ap data_in (front c few) ∙ data_form c.args.state.now c.requires.state_size_in_bounds.1

-- what the steps leave is the store of the definition
same : (c : After-settle-left) → data_in (take c.args.old.held (c.get_data.new.held ++ drop c.args.old.held (replicate 17 c.none-held.result))) ≡ (store_of c.args.state.now).held
    → let a = c.args in let u = c.settle-left in
    store_in (take u.result.held u.new.held) u.result.known (table_from (entry_count a.state.now) a.state.now u.new.counts u.new.masks)
    ≡ settled (datum_of a.new a.p.now) (blamed_by a.blame (store_of a.state.now))
unfolding blamed_by
same c held =
    let a = c.args in
    let s = a.state.now in
    let u = c.settle-left in
    subst
    (λ (n : ℕ). store_in (take u.result.held u.new.held) u.result.known (table_from n s u.new.counts u.new.masks) ≡ settled (datum_of a.new a.p.now) (blamed_by a.blame (store_of s)))
    c.requires.held_value.1
    (u.ensures.store_after ∙ ap (λ (x : List Datum). settled (datum_of a.new a.p.now) (record { held = x; entries = with_term a.blame (store_of s).entries })) held)

-- the table, told by the state's own count
fits : (c : After-settle-left) → let a = c.args in let u = c.settle-left in TableFits 16 u.result.known (table_from (entry_count a.state.now) a.state.now u.new.counts u.new.masks)
fits c =
    let u = c.settle-left in
    subst (λ (n : ℕ). TableFits 16 u.result.known (table_from n c.args.state.now u.new.counts u.new.masks)) c.requires.held_value.1 u.ensures.table_fits_2.0

-- the test for 32
many : (c : After-count-live) → let a = c.args in let u = c.settle-left in
    store_in (take u.result.held u.new.held) u.result.known (table_from (entry_count a.state.now) a.state.now u.new.counts u.new.masks)
    ≡ settled (datum_of a.new a.p.now) (blamed_by a.blame (store_of a.state.now)) →
    TableFits 16 u.result.known (table_from (entry_count a.state.now) a.state.now u.new.counts u.new.masks) →
    too_many (settled (datum_of a.new a.p.now) (blamed_by a.blame (store_of a.state.now))) ≡ (ltb 16 c.count-live.result.held || ltb 32 c.count-live.result.known)
many c left fit =
    ap too_many (sym left) ∙ many_live _ _ _ fit ∙ rw (← c.count-live.ensures.0, ← c.count-live.ensures.1)

pub returns-then-live-clause-value : goal.returns-then-live-clause-value
returns-then-live-clause-value c =
    let at = goal.at.returns-then-live-clause-value c in
    rw (many at.After-count-live (same at.After-settle-left (read at.After-get_data (few at.Start).0)) (fits at.After-settle-left) ∙ c.if-live.true)

pub returns-then-live-clause-state_after : goal.returns-then-live-clause-state_after
unfolding after
returns-then-live-clause-state_after c = refl

pub put_store-requires-clause-table_fits : goal.put_store-requires-clause-table_fits
put_store-requires-clause-table_fits c =
    let u = c.settle-left in
    table_lent u.result.known (entry_count c.args.state.now) c.args.state.now u.new.counts u.new.masks (fits (goal.at.put_store-requires-clause-table_fits c).After-settle-left)

pub put_store-requires-clause-masks_len_bound : goal.put_store-requires-clause-masks_len_bound
put_store-requires-clause-masks_len_bound c =
    let s = c.args.state.now in
    let u = c.settle-left in
    let fit = fits (goal.at.put_store-requires-clause-masks_len_bound c).After-settle-left in
    let enough = few-counts c.count-live.result.held c.count-live.result.known c.if-live.false in
    omega (arith, ap length (entries_lent u.result.known (entry_count s) s u.new.counts u.new.masks fit), entries-live (take u.result.held u.new.held) _ _ fit, c.count-live.ensures.1, enough.1)

pub put_store-requires-clause-data_stand : goal.put_store-requires-clause-data_stand
unfolding fresh
put_store-requires-clause-data_stand c =
    let s = c.args.state.now in
    let form = c.requires.state_size_in_bounds.1 in
    let u = c.settle-left in
    let read = front (goal.at.put_store-requires-clause-data_stand c).After-get_data (few (goal.at.put_store-requires-clause-data_stand c).Start).0 in (
      data_front s _ u.new.held u.result.held (ap length read ∙ length-tab (held_count s) (datum_row s)) u.ensures.fact.1
          (subst (λ (l : List Held). DataStand s l) (sym read) (data_standing s form)),
      entries_stand_front s u.new.counts u.result.known u.ensures.table_fits_2.0.counted u.ensures.table_fits_2.1,
    )

pub returns-clause-value : goal.returns-clause-value
returns-clause-value c =
    let at = goal.at.returns-clause-value c in
    rw (many at.After-count-live (same at.After-settle-left (read at.After-get_data (few at.Start).0)) (fits at.After-settle-left) ∙ c.if-live.false)

pub returns-clause-state_after : goal.returns-clause-state_after
unfolding after
returns-clause-state_after c =
    let s = c.args.state.now in
    let u = c.settle-left in
    let at = goal.at.returns-clause-state_after c in
    rw (store_lent u.result.known (entry_count s) s u.new.counts u.new.masks (fits at.After-settle-left) (take u.result.held u.new.held) ∙ same at.After-settle-left (read at.After-get_data (few at.Start).0)) at c.put_store.ensures
