-- Invariant: the set leaves the terms from i on false, and the names that do are theirs.
use Prim.Native.Nat.{◌+◌, ◌≤◌}
use mathlib.Core.Path.{◌≡◌}
use mathlib.Core.Bool.{false}
use lib.Count.{ones}
use lib.ListN.{length, drop}
use Rattle.predicates.specs.Predicates.{holds}
use Rattle.search.specs.code.Search.{gather}
use Rattle.search.proofs.rows.narrow_terms.Given as goal

abbrev pub invariant-loop-i : goal.invariant-loop-i
invariant-loop-i l =
    (l.i ≤ length l.p) × (l.does ≡ gather l.base (ones l.set + 1) l.set (drop l.i l.p)) × (holds l.set (drop l.i l.p) ≡ false)
