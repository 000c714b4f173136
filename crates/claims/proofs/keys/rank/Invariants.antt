-- Invariant: so many of the first parts are less than x.
use Prim.Native.Nat.{◌≤◌}
use mathlib.Core.Path.{◌≡◌}
use Rattle.claims.specs.code.Keys.{below}
use Rattle.claims.proofs.keys.rank.Given as goal

abbrev pub invariant-loop-part : goal.invariant-loop-part
invariant-loop-part l = (l.r ≤ l.part-index) × (l.r ≡ below l.part-index l.parts l.x)
