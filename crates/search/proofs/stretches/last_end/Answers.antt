-- `last_end` meets its contract: the greatest so far is kept.
use mathlib.Core.Path.{◌≡◌, sym}
use native.Mathlib.Omega.{arith}
use Rattle.search.proofs.EndSteps.{left_at, last_none, last-took, last-passed}
use Rattle.search.proofs.stretches.last_end.Goals as goal
use Rattle.search.proofs.stretches.last_end.Goals.{then-last-end, else-last-end}

pub loop-i-init : goal.loop-i-init
loop-i-init c = (c.requires.0, last_none _ _ _ _)

pub loop-i-preserved : goal.loop-i-preserved
loop-i-preserved c =
    let head = c.loop-i in
    let at = sym (left_at c.args.ends.now head.i) in (
      omega arith,
      elim c.if-last-end.branch [
        | then-last-end w ↦ rw w.last-is (last-took _ _ head.i _ _ _ head.auto.i head.invariant.1 _ at w.if-last-end.true)
        | else-last-end w ↦ rw w.last-is (last-passed _ _ head.i _ _ _ head.auto.i head.invariant.1 _ at w.if-last-end.false)
      ],
    )

pub returns : goal.returns
returns c =
    let done : c.loop-i.i ≡ c.args.to = omega (arith, c.loop-i.invariant.0, c.loop-i-test.false) in
    rw done at c.loop-i.invariant.1
