-- Invariant: no term before the index is in s.
use mathlib.Core.Path.{◌≡◌}
use mathlib.Core.Bool.{false}
use lib.ListN.{take}
use Rattle.std.specs.List.{list_any}
use Rattle.names.specs.Sets.{subset}
use Rattle.predicates.proofs.holds.Given as goal

abbrev pub invariant-loop-t : goal.invariant-loop-t
invariant-loop-t l = list_any (λ t. subset t l.s) (take l.t-index l.p) ≡ false
