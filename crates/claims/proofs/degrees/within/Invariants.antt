-- Invariant: the claims before i need no more. Measure: the claims still to test.
use Prim.Native.Nat.{◌-◌, ◌≤◌}
use mathlib.Core.Path.{◌≡◌}
use mathlib.Core.Bool.{true}
use Rattle.predicates.specs.Lists.{all_below}
use Rattle.state.specs.Layout.{store_of}
use Rattle.claims.specs.code.Degrees.{degree_within}
use Rattle.claims.proofs.degrees.within.Given as goal

abbrev pub invariant-loop-i : goal.invariant-loop-i
invariant-loop-i l = (l.i ≤ l.rows) × (all_below l.i (degree_within (store_of l.s.bytes.now) l.most) ≡ true)

abbrev pub decreases-loop-i : goal.decreases-loop-i
decreases-loop-i l = l.rows - l.i
