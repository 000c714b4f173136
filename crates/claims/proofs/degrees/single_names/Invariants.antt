-- Invariant: the names of the first i terms. Measure: the terms still to take.
use Prim.Native.Nat.{◌-◌, ◌≤◌}
use mathlib.Core.Path.{◌≡◌}
use lib.ListN.{take}
use Rattle.numbers.specs.Numbers.{num}
use Rattle.predicates.specs.code.Marks.{singles}
use Rattle.state.specs.Layout.{row_at}
use Rattle.search.specs.code.Search.{row_width}
use Rattle.claims.proofs.degrees.single_names.Given as goal

abbrev pub invariant-loop-i : goal.invariant-loop-i
invariant-loop-i l = (l.i ≤ l.count) × (l.count ≡ num l.at 4 l.s) × (l.names ≡ singles (take l.i (row_at row_width l.at l.s)))

abbrev pub decreases-loop-i : goal.decreases-loop-i
decreases-loop-i l = l.count - l.i
