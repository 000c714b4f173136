-- Invariants: no end below the floor is explained; what comes of the terms still to try comes of all that the end needs. Measure: the instants from
-- the floor on.
use Prim.Native.Nat.{◌-◌}
use lib.ListN.{length, drop}
use Rattle.names.specs.Sets.{no_set}
use Rattle.search.specs.code.Search.{all_preds, Trying}
use Rattle.search.specs.code.LeftEnds.{no_end, lefts_of, rights_of, needs, Unexplained}
use Rattle.search.proofs.stretches.Table.first_stretch.Given as goal

abbrev pub invariant-loop-t : goal.invariant-loop-t
invariant-loop-t l =
    Trying no_set l.limit 0 l.free (needs (length l.self.rows.now) (lefts_of l.self.ends.now) (rights_of l.self.ends.now) l.self.rows.now l.self.order.now l.x)
    no_set (drop l.t-index l.t-items) (drop 1 (all_preds l.search.listed.now l.self.rows.now)) l.rest no_set

abbrev pub invariant-ends : goal.invariant-ends
invariant-ends l =
    Unexplained l.self.entries (length l.self.rows.now) (lefts_of l.self.ends.now) (rights_of l.self.ends.now) l.self.rows.now l.self.order.now l.limit l.free l.floor

abbrev pub decreases-ends : goal.decreases-ends
decreases-ends l = no_end - l.floor
