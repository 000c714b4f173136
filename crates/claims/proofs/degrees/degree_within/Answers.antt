-- `claims::degrees::degree_within` meets its contract: the loop stops at the first term of so few names.
use mathlib.Core.Path.{refl, sym, ◌∙◌}
use native.Mathlib.Omega.{arith}
use Rattle.claims.proofs.DegreeLaws.{degree-here, degree-turn, degree_end}
use Rattle.claims.proofs.degrees.degree_within.Goals as goal

pub loop-i-init : goal.loop-i-init
loop-i-init c = (omega arith, c.get32-count.ensures.0, refl)

pub returns-then-count-most : goal.returns-then-count-most
returns-then-count-most c =
    let head = c.loop-i in
    sym (sym head.invariant.2 ∙ degree-here _ _ c.requires.0 head.i _ (omega arith) _ c.get32.ensures.0 _ c.count.ensures.0 c.if-count-most.true)

pub loop-i-preserved : goal.loop-i-preserved
loop-i-preserved c =
    let head = c.loop-i in
    (omega arith, head.invariant.1, sym (degree-turn _ _ c.requires.0 head.i _ (omega arith) _ c.get32.ensures.0 _ c.count.ensures.0 c.if-count-most.false) ∙ head.invariant.2)

pub returns : goal.returns
returns c =
    let head = c.loop-i in
    sym (degree_end _ _ c.requires.0 head.i _ (omega arith)) ∙ head.invariant.2
