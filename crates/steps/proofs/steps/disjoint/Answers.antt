-- `steps::steps::disjoint` meets its contract: the whole microseconds tell that the intervals meet (`meets_soon`); else both numbers decide.
use native.Mathlib.Omega.{arith}
use Rattle.steps.proofs.StepLaws.{meets_soon}
use Rattle.steps.proofs.steps.disjoint.Goals as goal

pub returns-then-b-a : goal.returns-then-b-a
returns-then-b-a c =
    let i = c.args in
    meets_soon i.a i.b (omega arith, omega arith) (omega arith, omega arith) c.if-b-a.true

pub returns : goal.returns
returns c = rw (c.precedes.ensures, c.precedes-2.ensures)
