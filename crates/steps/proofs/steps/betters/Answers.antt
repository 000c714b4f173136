-- `steps::steps::betters` meets its contract: the intervals are compared first, since they decide most pairs.
use mathlib.Core.Bool.{true, false, and-true, and-false}
use Rattle.ends.specs.Ends.{count_of}
use Rattle.steps.specs.Steps.{betters}
use native.Mathlib.Omega.{arith}
use Rattle.steps.proofs.StepLaws.{within-told, beyond_soon}
use Rattle.steps.proofs.steps.betters.Goals as goal

pub returns-then-a-b : goal.returns-then-a-b
unfolding betters
returns-then-a-b c =
    let i = c.args in
    rw (beyond_soon i.a i.b (omega arith, omega arith) (omega arith, omega arith) c.if-a-b.true, and-false)

pub returns-then-precedes : goal.returns-then-precedes
unfolding betters
returns-then-precedes c =
    let i = c.args in
    rw (
      within-told (count_of i.a.left) (count_of i.b.left) (count_of i.b.right) (count_of i.a.right) _ _ true c.precedes.ensures c.precedes-2.ensures
          c.if-precedes.true,
      and-true,
    )
    c.implies.ensures

pub returns : goal.returns
unfolding betters
returns c =
    let i = c.args in
    rw (
      within-told (count_of i.a.left) (count_of i.b.left) (count_of i.b.right) (count_of i.a.right) _ _ false c.precedes.ensures c.precedes-2.ensures
          c.if-precedes.false,
      and-false,
    )
