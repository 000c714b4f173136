-- Invariant: the terms before the index are without the names of r, and the rest is as it was.
use mathlib.Core.Path.{◌≡◌}
use mathlib.Core.List.{◌++◌, map}
use lib.ListN.{take, drop}
use Rattle.names.specs.Sets.{minus}
use Rattle.epochs.proofs.withdraw.take_out.Given as goal

abbrev pub invariant-loop-t : goal.invariant-loop-t
invariant-loop-t l = l.terms ≡ map (λ t. minus t l.r) (take l.t-index l.initial.terms) ++ drop l.t-index l.initial.terms
