-- Invariant: the terms that are still to be stored make of the list what all of them make of the first one.
use Prim.Native.Nat.{◌+◌}
use mathlib.Core.Path.{◌≡◌}
use lib.ListN.{drop}
use lib.Seq.{sets}
use Rattle.predicates.proofs.sums.copy.Given as goal

abbrev pub invariant-loop-i : goal.invariant-loop-i
invariant-loop-i l = sets l.terms (l.at + l.i) (drop l.i l.p) ≡ sets l.initial.terms l.at l.p
