-- Invariant: the names that decide the first i entries. Measure: the entries still to look at.
use Prim.Native.Nat.{◌-◌, ◌≤◌}
use mathlib.Core.Path.{◌≡◌}
use Rattle.numbers.specs.Numbers.{num}
use Rattle.state.specs.Layout.{own_at, store_of}
use Rattle.claims.specs.code.Degrees.{deciding}
use Rattle.claims.proofs.degrees.deciding_names.Given as goal

abbrev pub invariant-loop-i : goal.invariant-loop-i
invariant-loop-i l = (l.i ≤ l.n) × (l.names ≡ deciding (store_of l.s.bytes.now) (num own_at 4 l.s.bytes.now) l.i)

abbrev pub decreases-loop-i : goal.decreases-loop-i
decreases-loop-i l = l.n - l.i
