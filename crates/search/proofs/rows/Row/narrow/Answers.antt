-- `Row::narrow` meets its contract: the mask has a name of the set, or its names do, and the terms of several names tell the others (`PartedLaws`).
use mathlib.Core.Path.{refl}
use Rattle.search.proofs.PartedLaws.{row_hit, row-narrow}
use Rattle.search.proofs.rows.Row.narrow.Goals as goal

pub returns-then-shared-gt0 : goal.returns-then-shared-gt0
returns-then-shared-gt0 c =
    rw (row_hit _ c.args.set c.requires _ c.shared.ensures c.if-shared-gt0.true) refl

pub returns : goal.returns
returns c =
    row-narrow _ c.args.set c.requires _ c.shared.ensures c.if-shared-gt0.false _ _ (rw (c.rest.ensures, c.union.ensures) at c.narrow_terms.ensures)
