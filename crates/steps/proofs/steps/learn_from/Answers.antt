-- `steps::steps::learn_from` meets its contract: intervals that overlap teach nothing; else the sum of both predicates is learnt.
use mathlib.Core.Path.{sym, ◌∙◌}
use Rattle.steps.specs.Steps.{disjoint}
use Rattle.steps.proofs.steps.learn_from.Goals as goal

pub returns-then-disjoint-clause-entries_after : goal.returns-then-disjoint-clause-entries_after
unfolding disjoint
returns-then-disjoint-clause-entries_after c = rw (sym c.disjoint.ensures ∙ c.if-disjoint.true) c.learn_sum.ensures.entries_after

pub returns-else-disjoint-clause-entries_after : goal.returns-else-disjoint-clause-entries_after
unfolding disjoint
returns-else-disjoint-clause-entries_after c = rw (sym c.disjoint.ensures ∙ c.if-disjoint.false)
