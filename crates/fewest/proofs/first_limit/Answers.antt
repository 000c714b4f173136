-- `fewest::first_limit` meets its contract: the first limit that is not ruled out ends the loop.
use mathlib.Core.Path.{◌≡◌, sym, ◌∙◌}
use native.Mathlib.Omega.{arith}
use Rattle.fewest.proofs.FailureSteps.{ruled_none, ruled_next, ruled_first}
use Rattle.fewest.proofs.first_limit.Goals as goal

pub loop-limit-init : goal.loop-limit-init
loop-limit-init c = ruled_none _

pub returns-then-not-hopeless : goal.returns-then-not-hopeless
returns-then-not-hopeless c = ruled_first _ _ c.loop-limit.invariant (λ _. sym c.hopeless.ensures ∙ c.if-not-hopeless.true)

pub loop-limit-preserved : goal.loop-limit-preserved
loop-limit-preserved c = ruled_next _ _ c.loop-limit.invariant c.loop-limit-test.true (sym c.hopeless.ensures ∙ c.if-not-hopeless.false)

pub returns : goal.returns
returns c =
    let done : c.loop-limit.limit ≡ 5 = omega (arith, c.loop-limit.invariant.most) in
    ruled_first _ 5 (rw done at c.loop-limit.invariant) (λ l. absurd (omega arith))
