-- Invariant: what the names leave that are done, and what was begun with. Measure: the names still to come, as a number.
use mathlib.Core.Bool.{Bool}
use mathlib.Core.List.{List}
use lib.Dec.{T}
use Rattle.names.specs.Sets.{subset, minus}
use Rattle.state.specs.Model.{Datum}
use Rattle.search.specs.code.LeftEnds.{lefts_of, rights_of}
use Rattle.asking.specs.code.One.{InArrays, Lacking, AtMostOne, Hull}
use Rattle.asking.proofs.one.over_names.Given as goal

abbrev pub invariant-loop-rest : goal.invariant-loop-rest
invariant-loop-rest l =
    T (subset l.rest l.names)
    × ((ds : List Datum) → InArrays ds (lefts_of l.ends) (rights_of l.ends) l.masks → Lacking ds l.names → (plain : Bool) → Hull ds (AtMostOne plain 0) l.initial.widest.left l.initial.widest.right
    → Hull ds (AtMostOne plain (minus l.names l.rest)) l.widest.left l.widest.right)

abbrev pub decreases-loop-rest : goal.decreases-loop-rest
decreases-loop-rest l = l.rest
