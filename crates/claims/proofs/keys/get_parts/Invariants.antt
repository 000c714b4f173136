-- Invariant: the millionths of the first ends are there.
use Prim.Native.Nat.{ℕ, ◌<◌}
use mathlib.Core.Path.{◌≡◌}
use lib.ListN.{get_or}
use Rattle.claims.specs.code.Keys.{millionths_at}
use Rattle.claims.proofs.keys.get_parts.Given as goal

abbrev pub invariant-loop-j : goal.invariant-loop-j
invariant-loop-j l = (k : ℕ) → k < l.j → get_or l.parts k 0 ≡ millionths_at l.s k
