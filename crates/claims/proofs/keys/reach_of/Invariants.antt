-- Invariant: the least of the left ends before i, and the greatest of the right ends; there are few data.
use Prim.Native.Nat.{◌≤◌}
use mathlib.Core.Path.{◌≡◌}
use Rattle.state.specs.Layout.{data_most}
use Rattle.claims.specs.code.Keys.{least_whole, greatest_whole}
use Rattle.claims.proofs.keys.reach_of.Given as goal

abbrev pub invariant-loop-i : goal.invariant-loop-i
invariant-loop-i l = (l.first ≡ least_whole l.i l.s.bytes.now) × (l.last ≡ greatest_whole l.i l.s.bytes.now) × (l.h ≤ data_most)
