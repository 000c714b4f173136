-- `entries::tables::Standing::row` meets its contract: a row below `first` is read from the bytes (`row_read`), one from there on is a part of the array
-- (`row_lent`).
use Prim.Native.Nat.{◌+◌, ◌*◌, ◌-◌, ◌≤◌}
use mathlib.Core.Path.{◌∙◌}
use mathlib.Core.List.{◌++◌}
use native.Mathlib.Omega.{arith}
use lib.ListN.{length}
use Rattle.state.specs.code.Tables.{entry_masks}
use Rattle.state.proofs.RowLaws.{table_less}
use Rattle.entries.proofs.StandingLaws.{array_room, row_read, row_lent, row-taken}
use Rattle.entries.proofs.tables.Standing.row.Goals as goal
use Rattle.entries.proofs.tables.Standing.row.Goals.{Else-i-self}

pub returns-then-i-self : goal.returns-then-i-self
returns-then-i-self c =
    let e = c.args.self.now in
    row-taken c.args.i e.counts.now (entry_masks e.first e.state.now ++ e.masks.now) _ (table_less 16 _ _ _ _ e.fits (omega arith))
    ((rw c.told-room at c.get_words.ensures) ∙ row_read e.first e.state.now e.masks.now c.args.i c.if-i-self.true)

-- the row lies within the array
room : (c : Else-i-self) → let e = c.args.self.now in (c.args.i - e.first) * 16 + 16 ≤ length e.masks.now
room c =
    let e = c.args.self.now in
    array_room e.first e.state.now e.masks.now c.args.i c.if-i-self.false (omega (arith, e.fits.long))

pub overflow_mul-from : goal.overflow_mul-from
overflow_mul-from c = omega (arith, room (goal.at.overflow_mul-from c).Else-i-self)

pub overflow_add-result : goal.overflow_add-result
overflow_add-result c = omega (arith, room (goal.at.overflow_add-result c).Else-i-self, c.args.self.now.fits.narrow c.args.i)

pub offset_bounds-self-from : goal.offset_bounds-self-from
offset_bounds-self-from c = omega (arith, room (goal.at.offset_bounds-self-from c).Else-i-self)

pub slice_bounds-result-end-2 : goal.slice_bounds-result-end-2
slice_bounds-result-end-2 c = omega (arith, room (goal.at.slice_bounds-result-end-2 c).Else-i-self, c.args.self.now.fits.narrow c.args.i)

pub returns : goal.returns
returns c =
    let e = c.args.self.now in
    row_lent e.first e.state.now e.masks.now e.counts.now c.args.i c.if-i-self.false
