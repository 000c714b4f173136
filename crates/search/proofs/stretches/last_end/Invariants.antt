-- Invariant: it is the greatest of the ends in places `from` to i.
use Prim.Native.Nat.{◌≤◌}
use Rattle.search.specs.code.LeftEnds.{lefts_of, Last}
use Rattle.search.proofs.stretches.last_end.Given as goal

abbrev pub invariant-loop-i : goal.invariant-loop-i
invariant-loop-i l = (l.i ≤ l.to) × Last (lefts_of l.ends) l.from l.i l.floor l.roof l.last
