-- `Table::first_in_stretch` meets its contract: each set that is found leads to an earlier end, until the one before it in the stretch has no set.
use mathlib.Core.Logic.{⊎_elim}
use native.Mathlib.Omega.{arith}
use Rattle.search.proofs.EndSteps.{listed-rows, listed-needs}
use Rattle.search.proofs.StretchLaws.{explains_below, back_le, back_end, back_explains, back_done, back_stop, last-is_end, last_lt}
use Rattle.search.proofs.stretches.Table.first_in_stretch.Goals as goal

pub loop-end-init : goal.loop-end-init
loop-end-init c =
    let some = c.requires.2 in
    let stretch = some.1.reached some.0 in
    let next = rw c.unwrap-end.ensures at c.next_left.ensures.next in (
      back_end _ _ _ _ _ _ c.args.self.now.ready _ _ _ _ _ _ stretch.1 stretch.0 c.latest.ensures next,
      back_explains _ _ _ _ _ _ c.args.self.now.ready _ _ _ _ _ _ stretch.1 stretch.0 c.latest.ensures next,
      back_le _ _ _ _ _ _ c.args.self.now.ready _ _ _ _ _ _ stretch.1 stretch.0 c.latest.ensures next,
    )

pub invariant_of-search : goal.invariant_of-search
invariant_of-search c =
    record { fit = listed-rows _ _ _ _ _ _ _ _ c.args.self.now.ready (omega arith) _ _ c.list_outside-m.ensures.fact }

pub returns-then-other-ge-NO_SET-clause-fact : goal.returns-then-other-ge-NO_SET-clause-fact
returns-then-other-ge-NO_SET-clause-fact c =
    let inv = c.loop-end.invariant in
    let same = listed-needs _ _ _ _ _ _ _ _ c.args.self.now.ready (omega arith) _ _ c.list_outside-m.ensures.fact in (
      explains_below _ _ _ _ _ _ c.args.self.now.ready _ _ c.requires.1 _ _ inv.1,
      back_stop _ _ _ _ _ _ c.args.self.now.ready _ _ c.requires.1 _ _ _ c.requires.2.1 c.requires.2.0 _ _ inv.0 inv.1 c.loop-end-test.true inv.2 _
          c.last_end-x.ensures _ (rw same at c.predicate_step-other.ensures) c.if-other-ge-NO_SET.true,
    )

pub loop-end-smaller : goal.loop-end-smaller
loop-end-smaller c =
    let same = listed-needs _ _ _ _ _ _ _ _ c.args.self.now.ready (omega arith) _ _ c.list_outside-m.ensures.fact in
    let found = ⊎_elim (λ e. absurd (omega (arith, c.if-other-ge-NO_SET.false))) (λ f. f) (rw same at c.predicate_step-other.ensures).from in
    let last = c.last_end-x.ensures in
    let over = c.loop-end-test.true in
    let inv = c.loop-end.invariant in
    let end = last-is_end _ _ _ _ _ _ c.args.self.now.ready _ _ c.requires.1 _ _ _ c.requires.2.1 c.requires.2.0 _ _ inv.0 inv.1 over inv.2 _ last in
    let lower = last_lt _ _ _ _ _ _ c.args.self.now.ready _ _ c.requires.1 _ _ _ c.requires.2.1 c.requires.2.0 _ _ inv.0 inv.1 over inv.2 _ last in
    let next = rw c.unwrap-end-in-loop-end.ensures at c.next_left-in-loop-end.ensures.next in
    omega (arith, lower, back_le _ _ _ _ _ _ c.args.self.now.ready _ _ _ _ _ _ found end c.latest-in-loop-end.ensures next)

pub loop-end-preserved : goal.loop-end-preserved
loop-end-preserved c =
    let same = listed-needs _ _ _ _ _ _ _ _ c.args.self.now.ready (omega arith) _ _ c.list_outside-m.ensures.fact in
    let found = ⊎_elim (λ e. absurd (omega (arith, c.if-other-ge-NO_SET.false))) (λ f. f) (rw same at c.predicate_step-other.ensures).from in
    let last = c.last_end-x.ensures in
    let over = c.loop-end-test.true in
    let inv = c.loop-end.invariant in
    let end = last-is_end _ _ _ _ _ _ c.args.self.now.ready _ _ c.requires.1 _ _ _ c.requires.2.1 c.requires.2.0 _ _ inv.0 inv.1 over inv.2 _ last in
    let lower = last_lt _ _ _ _ _ _ c.args.self.now.ready _ _ c.requires.1 _ _ _ c.requires.2.1 c.requires.2.0 _ _ inv.0 inv.1 over inv.2 _ last in
    let latest = c.latest-in-loop-end.ensures in
    let next = rw c.unwrap-end-in-loop-end.ensures at c.next_left-in-loop-end.ensures.next in (
      back_end _ _ _ _ _ _ c.args.self.now.ready _ _ _ _ _ _ found end latest next,
      back_explains _ _ _ _ _ _ c.args.self.now.ready _ _ _ _ _ _ found end latest next,
      omega (arith, inv.2, lower, back_le _ _ _ _ _ _ c.args.self.now.ready _ _ _ _ _ _ found end latest next),
    )

pub returns-clause-fact : goal.returns-clause-fact
returns-clause-fact c = (
  explains_below _ _ _ _ _ _ c.args.self.now.ready _ _ c.requires.1 _ _ c.loop-end.invariant.1,
  back_done _ _ _ _ _ _ c.args.self.now.ready _ _ c.requires.1 _ _ _ c.requires.2.1 c.requires.2.0 _ _ c.loop-end.invariant.0 c.loop-end.invariant.1 c.loop-end-test.false,
)
