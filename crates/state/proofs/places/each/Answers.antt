-- `state::places::each` meets its contract: a turn adds one place to those tested.
use mathlib.Core.Path.{refl}
use Rattle.predicates.specs.Lists.{all_below}
use Rattle.state.proofs.FormLoops.{below-turn}
use Rattle.state.proofs.places.each.Goals as goal

pub loop-i-init : goal.loop-i-init
unfolding all_below
loop-i-init g c = λ test tells. refl

pub loop-i-preserved : goal.loop-i-preserved
loop-i-preserved g c =
    λ test tells. below-turn test c.loop-i.i _ _ (c.loop-i.invariant test tells) (tells c.loop-i.i _ c.loop-i-test.true c.passes-ok.ensures)
