-- Invariant: none of the names that are done leaves one. Measure: the names still to come, as a number.
use mathlib.Core.List.{List}
use lib.Dec.{T}
use Rattle.names.specs.Sets.{subset, minus}
use Rattle.state.specs.Model.{Datum}
use Rattle.search.specs.code.LeftEnds.{lefts_of, rights_of}
use Rattle.asking.specs.code.One.{InArrays}
use Rattle.asking.proofs.OneSteps.{NoneOf}
use Rattle.asking.proofs.one.least_leaving.Given as goal

abbrev pub invariant-loop-rest : goal.invariant-loop-rest
invariant-loop-rest l =
    T (subset l.rest l.names) × ((ds : List Datum) → InArrays ds (lefts_of l.ends) (rights_of l.ends) l.masks → NoneOf ds (minus l.names l.rest))

abbrev pub decreases-loop-rest : goal.decreases-loop-rest
decreases-loop-rest l = l.rest
