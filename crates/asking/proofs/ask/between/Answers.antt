-- `asking::ask::between` meets its contract: no state has more rows than the array has places.
use mathlib.Core.Path.{sym}
use lib.Seq.{length-take-le}
use Rattle.asking.proofs.AskSteps.{rows_fit}
use Rattle.asking.proofs.ask.between.Goals as goal

pub slice_bounds-ends-end : goal.slice_bounds-ends-end
slice_bounds-ends-end c = rows_fit _ c.args.s.sound _ _ _ _ c.requires.fact.0 c.requires.fact.1

pub slice_bounds-between_in-end : goal.slice_bounds-between_in-end
slice_bounds-between_in-end c =
    sym (length-take-le _ _ (rows_fit _ c.args.s.sound _ _ _ _ c.requires.fact.0 c.requires.fact.1))

pub between_in-requires-clause-room : goal.between_in-requires-clause-room
between_in-requires-clause-room c =
    (c.requires.room, length-take-le _ _ (rows_fit _ c.args.s.sound _ _ _ _ c.requires.fact.0 c.requires.fact.1))
