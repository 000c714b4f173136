-- Invariant: t may stand before each term before the index.
use mathlib.Core.Path.{◌≡◌}
use mathlib.Core.Bool.{true}
use lib.ListN.{take}
use Rattle.std.specs.List.{list_all}
use Rattle.predicates.specs.Predicates.{precedes}
use Rattle.predicates.proofs.precedes_all.Given as goal

abbrev pub invariant-loop-u : goal.invariant-loop-u
invariant-loop-u l = list_all (λ u. precedes l.t u) (take l.u-index l.p) ≡ true
