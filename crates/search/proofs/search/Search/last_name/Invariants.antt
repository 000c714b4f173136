-- Invariant: narrowing the names from place j on leaves what narrowing all from place k on leaves.
use Prim.Native.Nat.{◌≤◌}
use mathlib.Core.Path.{◌≡◌}
use lib.Dec.{T}
use lib.ListN.{length, drop}
use Rattle.names.specs.Sets.{subset, set_union}
use Rattle.search.specs.code.Search.{all_preds, narrowed}
use Rattle.search.proofs.search.Search.last_name.Given as goal

abbrev pub invariant-loop-j : goal.invariant-loop-j
invariant-loop-j l =
    (l.j ≤ length l.self.listed.now) × T (subset l.set l.names)
    × (narrowed l.self.limit l.set (set_union l.set l.free) (drop l.k (all_preds l.self.listed.now l.self.rows.now)) ≡ narrowed l.self.limit l.set l.names (drop l.j (all_preds l.self.listed.now l.self.rows.now)))
