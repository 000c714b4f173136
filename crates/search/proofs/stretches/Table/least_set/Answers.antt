-- `Table::least_set` meets its contract: a search for the last end of each stretch over the rows that lack it; over all rows where there is no end.
use Prim.Native.Nat.{◌<◌}
use mathlib.Core.Path.{refl}
use native.Mathlib.Omega.{arith}
use Rattle.search.specs.code.LeftEnds.{no_end}
use Rattle.search.proofs.EndSteps.{preds-front, listed-rows, listed-needs}
use Rattle.search.proofs.StretchLaws.{stretches_room}
use Rattle.search.proofs.LeastLaws.{least_next, least_in, least-alone}
use Rattle.search.proofs.stretches.Table.least_set.Goals as goal

pub returns-then-self-rows-clause-fact : goal.returns-then-self-rows-clause-fact
returns-then-self-rows-clause-fact c =
    least-alone _ _ _ _ _ _ _ _ c.if-self-rows.true _
    (rw (preds-front _ c.args.self.now.order.now c.args.self.now.rows.now c.args.self.now.ready.ordered) at c.predicate_step.ensures)

pub invariant_of-search-in-Some : goal.invariant_of-search-in-Some
invariant_of-search-in-Some c =
    record { fit = listed-rows _ _ _ _ _ _ _ _ c.args.self.now.ready (omega arith) _ _ c.list_outside-m.ensures.fact }

pub overflow_add-floor : goal.overflow_add-floor
overflow_add-floor c =
    let next = rw c.in-Some.is at c.next_left.ensures.next in
    let under : c.in-Some.from < no_end = rw c.in-Some.is at c.next_left.ensures.below in
    let stretch = c.stretch_end-x.ensures in
    record { fits = omega (arith, (stretches_room _ _ _ _ _ _ c.args.self.now.ready _ _ next (λ e. absurd (omega arith)) _ stretch.0 stretch.1).0) }

pub loop-from-smaller : goal.loop-from-smaller
loop-from-smaller c =
    let next = rw c.in-Some.is at c.next_left.ensures.next in
    let under : c.in-Some.from < no_end = rw c.in-Some.is at c.next_left.ensures.below in
    let stretch = c.stretch_end-x.ensures in
    omega (arith, stretches_room _ _ _ _ _ _ c.args.self.now.ready _ _ next (λ e. absurd (omega arith)) _ stretch.0 stretch.1)

pub loop-from-preserved : goal.loop-from-preserved
loop-from-preserved c =
    let next = rw c.in-Some.is at c.next_left.ensures.next in
    let under : c.in-Some.from < no_end = rw c.in-Some.is at c.next_left.ensures.below in
    let stretch = c.stretch_end-x.ensures in
    let same = listed-needs _ _ _ _ _ _ _ _ c.args.self.now.ready (omega arith) _ _ c.list_outside-m.ensures.fact in
    least_next _ _ _ _ _ _ _ _ c.args.self.now.ready _ _ _ c.loop-from.invariant next (λ e. absurd (omega arith)) _ stretch.0 stretch.1 _
    (rw same at c.predicate_step-best.ensures)

pub returns-clause-fact : goal.returns-clause-fact
returns-clause-fact c =
    least_in _ _ _ _ _ _ _ _ c.args.self.now.ready _ _ _ c.loop-from.invariant (rw c.in_default.is at c.next_left.ensures.next) refl c.if-self-rows.false
