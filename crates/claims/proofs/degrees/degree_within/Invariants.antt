-- Invariant: the terms from i on decide what all of them do. Measure: the terms still to try.
use Prim.Native.Nat.{◌-◌, ◌≤◌}
use mathlib.Core.Path.{◌≡◌}
use lib.Dec.{leb}
use lib.ListN.{drop}
use Rattle.numbers.specs.Numbers.{num}
use Rattle.predicates.specs.Predicates.{degree}
use Rattle.state.specs.Layout.{row_at}
use Rattle.search.specs.code.Search.{row_width}
use Rattle.claims.proofs.degrees.degree_within.Given as goal

abbrev pub invariant-loop-i : goal.invariant-loop-i
invariant-loop-i l = (l.i ≤ l.count) × (l.count ≡ num l.at 4 l.s) × (leb (degree (drop l.i (row_at row_width l.at l.s))) l.most ≡ leb (degree (row_at row_width l.at l.s)) l.most)

abbrev pub decreases-loop-i : goal.decreases-loop-i
decreases-loop-i l = l.count - l.i
