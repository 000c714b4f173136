-- Invariant: what was found up to here.
use mathlib.Core.Path.{◌≡◌}
use lib.ListN.{take}
use Rattle.std.specs.List.{list_any}
use Rattle.names.specs.Sets.{subset}
use Rattle.predicates.proofs.marks.any_may_imply.Given as goal

abbrev pub invariant-loop-m : goal.invariant-loop-m
invariant-loop-m l = l.some ≡ list_any (λ m. subset m l.bound) (take l.m-index l.marks)
