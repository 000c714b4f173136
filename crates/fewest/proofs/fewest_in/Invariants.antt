-- Invariant: every set that works has at least `limit` names, and the array for the search keeps its length.
use Prim.Native.Nat.{◌≤◌}
use mathlib.Core.Path.{◌≡◌}
use lib.ListN.{length}
use Rattle.search.specs.code.Search.{rows_most}
use Rattle.claims.specs.code.Keys.{keyed_state}
use Rattle.fewest.specs.code.Limits.{Floor}
use Rattle.fewest.proofs.fewest_in.Given as goal

abbrev pub invariant-loop-limit : goal.invariant-loop-limit
invariant-loop-limit l = (length l.listed ≡ rows_most) × (l.limit ≤ 5) × Floor (keyed_state l.s.bytes.now) l.limit
