-- Invariant: the answer for all terms is the answer from term i on.
use mathlib.Core.Path.{◌≡◌}
use lib.ListN.{drop}
use Rattle.predicates.specs.Predicates.{is_normal}
use Rattle.predicates.proofs.is_normal.Given as goal

abbrev pub invariant-loop-i : goal.invariant-loop-i
invariant-loop-i l = is_normal l.p ≡ is_normal (drop l.i l.p)
