-- `predicates::sums::copy` meets its contract: each turn copies one term.
use Prim.Native.Nat.{◌+◌}
use mathlib.Core.Path.{◌≡◌, ◌∙◌}
use native.Mathlib.Omega.{arith}
use lib.ListN.{drop_of_length-le}
use Rattle.predicates.proofs.SumLaws.{copy-turn}
use Rattle.predicates.proofs.sums.copy.Goals as goal

pub loop-i-init : goal.loop-i-init
loop-i-init c = let e : c.args.at + 0 ≡ c.args.at = omega arith in rw e

pub loop-i-preserved : goal.loop-i-preserved
loop-i-preserved c = let at = c.loop-i in copy-turn at.terms _ _ at.i (omega arith) ∙ at.invariant

pub returns : goal.returns
returns c = let at = c.loop-i in rw (drop_of_length-le c.args.p.now {i = at.i} c.loop-i-test.false) at at.invariant
