-- Invariant: the best so far is the least of the sets that a left end below the floor needs. Measure: the instants from the floor on.
use Prim.Native.Nat.{◌-◌}
use lib.ListN.{length}
use Rattle.search.specs.code.LeftEnds.{no_end, lefts_of, rights_of}
use Rattle.search.proofs.LeastLaws.{LeastOf, Passed}
use Rattle.search.proofs.stretches.Table.least_set.Given as goal

abbrev pub invariant-loop-from : goal.invariant-loop-from
invariant-loop-from l =
    LeastOf
    (Passed l.self.entries (length l.self.rows.now) (lefts_of l.self.ends.now) (rights_of l.self.ends.now) l.self.rows.now l.self.order.now l.limit l.free l.floor)
    l.best

abbrev pub decreases-loop-from : goal.decreases-loop-from
decreases-loop-from l = no_end - l.floor
