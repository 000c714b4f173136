-- Invariant: passing what the set makes true from k on leaves what passing it from i on leaves.
use Prim.Native.Nat.{◌≤◌}
use mathlib.Core.Path.{◌≡◌}
use lib.ListN.{length, drop}
use Rattle.search.specs.code.Search.{all_preds, skipped}
use Rattle.search.proofs.search.Search.next_unexplained.Given as goal

abbrev pub invariant-loop-k : goal.invariant-loop-k
invariant-loop-k l =
    (l.k ≤ length l.self.listed.now)
    × (skipped l.set (drop l.k (all_preds l.self.listed.now l.self.rows.now)) ≡ skipped l.set (drop l.i (all_preds l.self.listed.now l.self.rows.now)))
