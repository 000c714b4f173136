-- `claims::degrees::within` meets its contract: the first claim that needs more names ends the loop.
use mathlib.Core.Path.{◌≡◌, refl, sym, ◌∙◌}
use mathlib.Core.Bool.{true}
use native.Mathlib.Omega.{arith}
use Rattle.predicates.specs.Lists.{all_below}
use Rattle.predicates.proofs.IndexLaws.{below_stop}
use Rattle.state.proofs.FormLoops.{below-turn}
use Rattle.claims.proofs.DegreeLaws.{claim_placed, claim_few, claim_within}
use Rattle.claims.proofs.degrees.within.Goals as goal

pub loop-i-init : goal.loop-i-init
unfolding all_below
loop-i-init c = (omega arith, refl)

pub place-requires : goal.place-requires
place-requires c =
    claim_placed _ c.args.s.sound _ c.known-n.ensures.value c.loop-i.i (omega arith)

pub degree_within-requires : goal.degree_within-requires
degree_within-requires c =
    (claim_few _ c.args.s.sound _ c.known-n.ensures.value c.loop-i.i (omega arith) _ c.place.ensures.0, omega arith)

pub returns-then-not-degree_within : goal.returns-then-not-degree_within
returns-then-not-degree_within c =
    let i = c.loop-i.i in
    let told = claim_within _ c.args.s.sound _ c.known-n.ensures.value i (omega arith) _ c.place.ensures.0 _ _ c.degree_within.ensures in
    sym (below_stop _ i _ c.loop-i-test.true (sym told ∙ c.if-not-degree_within.true))

pub loop-i-preserved : goal.loop-i-preserved
loop-i-preserved c =
    let head = c.loop-i in
    let told = claim_within _ c.args.s.sound _ c.known-n.ensures.value head.i (omega arith) _ c.place.ensures.0 _ _ c.degree_within.ensures in
    (omega arith, sym (below-turn _ head.i true true (sym head.invariant.1) (sym (sym told ∙ c.if-not-degree_within.false))))

pub returns : goal.returns
returns c =
    let head = c.loop-i in
    let last : head.i ≡ c.args.rows = omega arith in
    sym (rw last at head.invariant.1)
