-- Invariant: the masks of the first data are there.
use Prim.Native.Nat.{ℕ, ◌+◌, ◌<◌}
use mathlib.Core.Path.{◌≡◌}
use lib.ListN.{get_or}
use Rattle.predicates.specs.code.Marks.{singles}
use Rattle.state.specs.Layout.{store_of}
use Rattle.claims.specs.code.Tables.{claim_at}
use Rattle.claims.proofs.degrees.get_singles.Given as goal

abbrev pub invariant-loop-i : goal.invariant-loop-i
invariant-loop-i l = (k : ℕ) → k < l.i → get_or l.masks k 0 ≡ singles (claim_at (store_of l.s.bytes.now) (l.n + k)).terms
