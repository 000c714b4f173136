-- Invariant: the set explains the end, which is an end of the stretch or an earlier one. Measure: the end.
use Prim.Native.Nat.{◌≤◌}
use lib.ListN.{length}
use Rattle.search.specs.code.Search.{Fits}
use Rattle.search.specs.code.LeftEnds.{lefts_of, rights_of, IsEnd, needs}
use Rattle.search.proofs.stretches.Table.first_in_stretch.Given as goal

abbrev pub invariant-loop-end : goal.invariant-loop-end
invariant-loop-end l =
    IsEnd l.self.entries (length l.self.rows.now) (lefts_of l.self.ends.now) l.end
    × Fits l.limit 0 l.free (needs (length l.self.rows.now) (lefts_of l.self.ends.now) (rights_of l.self.ends.now) l.self.rows.now l.self.order.now l.end) l.set
    × (l.end ≤ l.stretch.end)

abbrev pub decreases-loop-end : goal.decreases-loop-end
decreases-loop-end l = l.end
