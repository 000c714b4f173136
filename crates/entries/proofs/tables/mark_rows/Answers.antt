-- `entries::tables::mark_rows` meets its contract: turn i makes the count and the mark of entry i.
use Prim.Native.Nat.{◌≤◌}
use native.Mathlib.Omega.{arith}
use Rattle.state.proofs.StateLaws.{entry_count_le}
use Rattle.state.proofs.StoreLaws.{column_none, column_next, column_done}
use Rattle.entries.proofs.tables.mark_rows.Goals as goal
use Rattle.entries.proofs.tables.mark_rows.Goals.{In-loop-i}

-- in form, at most 32 entries
few : (c : In-loop-i) → c.args.n ≤ 32
few c = omega (arith, c.requires.state_size_in_bounds.2, entry_count_le _ c.requires.state_size_in_bounds.1)

pub loop-i-init : goal.loop-i-init
loop-i-init c = (column_none _ _, column_none _ _)

pub overflow_mul-i : goal.overflow_mul-i
overflow_mul-i c = omega (arith, few (goal.at.overflow_mul-i c).In-loop-i)

pub overflow_add-i : goal.overflow_add-i
overflow_add-i c = omega (arith, few (goal.at.overflow_add-i c).In-loop-i)

pub get32-requires : goal.get32-requires
get32-requires c = omega (arith, few (goal.at.get32-requires c).In-loop-i, c.requires.state_size_in_bounds.0)

pub loop-i-preserved : goal.loop-i-preserved
loop-i-preserved c =
    let head = c.loop-i in
    (column_next _ head.i _ _ _ c.get32.ensures.0 head.invariant.0, column_next _ head.i _ _ _ c.mark_at.ensures head.invariant.1)

pub returns : goal.returns
returns c =
    let head = c.loop-i in
    let n = c.args.n in
    record {
      counts_after = column_done _ n head.i _ _ head.auto.i-end c.loop-i-test.false c.requires.n_in_bounds.0 head.invariant.0;
      marks_after = column_done _ n head.i _ _ head.auto.i-end c.loop-i-test.false c.requires.n_in_bounds.1 head.invariant.1;
    }
