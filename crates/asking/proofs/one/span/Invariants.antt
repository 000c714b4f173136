-- Invariant: the data from i on bring these ends to what all of them have in common.
use mathlib.Core.List.{List}
use Rattle.state.specs.Model.{Datum}
use Rattle.search.specs.code.LeftEnds.{lefts_of, rights_of}
use Rattle.asking.specs.code.One.{InArrays}
use Rattle.asking.proofs.OneSteps.{Spanning}
use Rattle.asking.proofs.one.span.Given as goal

abbrev pub invariant-loop-i : goal.invariant-loop-i
invariant-loop-i l = (ds : List Datum) → InArrays ds (lefts_of l.ends) (rights_of l.ends) l.masks → Spanning ds l.set l.i l.left l.right
