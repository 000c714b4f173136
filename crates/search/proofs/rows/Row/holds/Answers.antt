-- `Row::holds` meets its contract: the mask has a name of the set, or the terms of several names decide (`PartedLaws`).
use mathlib.Core.Path.{sym}
use Rattle.search.proofs.PartedLaws.{row_hit, row_miss}
use Rattle.search.proofs.rows.Row.holds.Goals as goal

pub returns-then-shared-gt0 : goal.returns-then-shared-gt0
returns-then-shared-gt0 c =
    sym (row_hit _ c.args.set c.requires _ c.shared.ensures c.if-shared-gt0.true)

pub returns : goal.returns
returns c =
    rw (sym (row_miss _ c.args.set c.requires _ c.shared.ensures c.if-shared-gt0.false), sym c.rest.ensures) c.holds.ensures
