-- `Search::next_unexplained` meets its contract: it stops at the first predicate that the set leaves false.
use mathlib.Core.Path.{refl, sym, ◌∙◌}
use native.Mathlib.Nat.{le_refl}
use native.Mathlib.Omega.{arith}
use Rattle.search.specs.code.Search.{pred_at}
use Rattle.search.proofs.SearchSteps.{skip_here, skip_next, skip_done}
use Rattle.search.proofs.search.Search.next_unexplained.Goals as goal

pub loop-k-init : goal.loop-k-init
loop-k-init c = (c.requires, refl)

pub returns-then-not-holds : goal.returns-then-not-holds
unfolding pred_at
returns-then-not-holds c = (
  c.loop-k.auto.k,
  c.loop-k.invariant.0,
  skip_here _ c.args.self.now.listed.now _ c.args.set c.loop-k.k c.loop-k-test.true (sym c.holds.ensures ∙ c.if-not-holds.true) ∙ c.loop-k.invariant.1,
)

pub loop-k-preserved : goal.loop-k-preserved
unfolding pred_at
loop-k-preserved c = (
  omega arith,
  skip_next _ c.args.self.now.listed.now _ c.args.set c.loop-k.k c.loop-k-test.true (sym c.holds.ensures ∙ c.if-not-holds.false) ∙ c.loop-k.invariant.1,
)

pub returns : goal.returns
returns c = (
  c.requires,
  le_refl _,
  skip_done _ c.args.self.now.listed.now _ c.args.set c.loop-k.k c.loop-k-test.false ∙ c.loop-k.invariant.1,
)
