-- Invariant: it is the latest of the rows from the entries on to i.
use Prim.Native.Nat.{◌≤◌}
use lib.ListN.{length}
use Rattle.search.specs.code.LeftEnds.{lefts_of, Latest}
use Rattle.search.proofs.stretches.Table.latest.Given as goal

abbrev pub invariant-loop-i : goal.invariant-loop-i
invariant-loop-i l = (l.i ≤ length l.self.rows.now) × Latest l.self.entries l.i (lefts_of l.self.ends.now) l.self.rows.now l.set l.last
