-- `withdrawing::get_entries` meets its contract: entry by entry, oldest first (`entries_next`), and each that is left has terms (`withdrawn_known`).
use mathlib.Core.Path.{◌≡◌, sym}
use native.Mathlib.Omega.{arith}
use Rattle.numbers.specs.Numbers.{tab}
use Rattle.state.proofs.RowLaws.{table_less, table_more}
use Rattle.state.proofs.StateLaws.{entry_count_le, form_entry}
use Rattle.withdrawing.proofs.WithdrawnLaws.{entries_none, entries_next, withdrawn_known}
use Rattle.withdrawing.proofs.get_entries.Goals as goal

pub loop-i-init : goal.loop-i-init
unfolding tab
loop-i-init c =
    (omega arith, c.requires.table_fits, sym (entries_none c.args.risen))

pub get_row-r-requires : goal.get_row-r-requires
get_row-r-requires c =
    let head = c.loop-i in
    let s = c.args.s.now in
    let most = entry_count_le s c.requires.state_size_in_bounds.1 in
    record { state_size_in_bounds = (c.requires.state_size_in_bounds.0, omega (arith, c.known-n.ensures.value), form_entry s c.requires.state_size_in_bounds.1 head.i (omega (arith, c.known-n.ensures.value)), omega (arith, c.known-n.ensures.value, head.invariant.0)); table_fits = table_less 16 _ _ _ _ head.invariant.1 (omega (arith, head.invariant.0, c.known-n.ensures.value)) }

pub loop-i-preserved : goal.loop-i-preserved
loop-i-preserved c =
    let head = c.loop-i in
    let made = c.get_row-r.ensures in
    let fits = c.loop-i.invariant.1 in (
      omega (arith, made.upper_bound.0, head.invariant.0),
      table_more 16 _ _ _ _ made.upper_bound.1 (omega (arith, fits.counted, c.get_row-r.auto.counts)) (omega (arith, fits.long, c.get_row-r.auto.masks)),
      entries_next c.args.risen c.args.s.now head.i _ _ head.invariant.2 made.masks_after,
    )

pub returns : goal.returns
returns c =
    let head = c.loop-i in
    let done : head.i ≡ c.known-n.result = omega arith in
    let all = rw done at head.invariant.2 in
    record { upper_bound = (omega (arith, head.invariant.0, c.known-n.ensures.value), head.invariant.1); fact = withdrawn_known c.args.risen c.args.s.now c.requires.state_size_in_bounds.1 head.r c.known-n.result _ c.known-n.ensures.value all }
