-- `Table::first_stretch` meets its contract: the stretches are tried from the least end on, and the terms of the first predicate one after the other.
use Prim.Native.Nat.{◌<◌}
use mathlib.Core.Path.{sym, ◌∙◌}
use native.Mathlib.Omega.{arith}
use Rattle.numbers.proofs.NumberLaws.{above_zero}
use Rattle.names.specs.Sets.{no_set}
use Rattle.search.specs.code.LeftEnds.{no_end}
use Rattle.search.proofs.SearchSteps.{trying_none, trying_skip, trying_stop}
use Rattle.search.proofs.EndSteps.{listed-long, listed-rows, listed-needs, trying_begin, trying_next, none_needed}
use Rattle.search.proofs.StretchLaws.{stretches_found, stretches_next, stretches_room}
use Rattle.search.proofs.stretches.Table.first_stretch.Goals as goal
use Rattle.search.proofs.stretches.Table.first_stretch.Goals.{else-worth, then-worth+else-set-lt-NO_SET}

pub invariant_of-search : goal.invariant_of-search
invariant_of-search c =
    record { fit = listed-rows _ _ _ _ _ _ _ _ c.args.self.now.ready (omega arith) _ _ c.list_outside-m.ensures.fact }

pub loop-t-init : goal.loop-t-init
loop-t-init c =
    let fact = c.list_outside-m.ensures.fact in
    let long = listed-long _ _ _ _ _ _ _ _ c.args.self.now.ready (omega arith) _ _ fact in
    let some : 0 < c.list_outside-m.result = above_zero c.if-m-eq0.false in
    trying_begin _ _ _ _ _ _ _ (omega (arith, some, long)) (listed-needs _ _ _ _ _ _ _ _ c.args.self.now.ready (omega arith) _ _ fact) c.terms-t-items.ensures

pub loop-t-preserved : goal.loop-t-preserved
loop-t-preserved c =
    let loop = c.loop-t in
    let h = c.loop-t-test.true in
    let test = sym c.worth.ensures in
    elim c.if-worth.branch [
      | then-worth+else-set-lt-NO_SET w ↦
          rw w.rest-is
          (trying_next _ _ _ _ _ loop.t-index loop.rest loop.invariant h _ (test ∙ w.if-worth.true) (rw w.union.ensures at w.predicate_step-set.ensures) _
          w.if-set-lt-NO_SET.false w.freed-rest.ensures)
      | else-worth w ↦ rw w.rest-is (trying_skip _ _ 0 _ _ _ _ _ loop.t-index loop.rest no_set loop.invariant h (test ∙ w.if-worth.false))
    ]

pub overflow_add-floor : goal.overflow_add-floor
overflow_add-floor c =
    let next = rw c.in-Some.is at c.next_left.ensures.next in
    let under : c.in-Some.from < no_end = rw c.in-Some.is at c.next_left.ensures.below in
    let stretch = c.stretch_end-x.ensures in
    record { fits = omega (arith, (stretches_room _ _ _ _ _ _ c.args.self.now.ready _ _ next (λ e. absurd (omega arith)) _ stretch.0 stretch.1).0) }

pub ends-smaller : goal.ends-smaller
ends-smaller c =
    let next = rw c.in-Some.is at c.next_left.ensures.next in
    let under : c.in-Some.from < no_end = rw c.in-Some.is at c.next_left.ensures.below in
    let stretch = c.stretch_end-x.ensures in
    omega (arith, stretches_room _ _ _ _ _ _ c.args.self.now.ready _ _ next (λ e. absurd (omega arith)) _ stretch.0 stretch.1)

pub ends-preserved : goal.ends-preserved
ends-preserved c =
    let next = rw c.in-Some.is at c.next_left.ensures.next in
    let under : c.in-Some.from < no_end = rw c.in-Some.is at c.next_left.ensures.below in
    let stretch = c.stretch_end-x.ensures in
    stretches_next _ _ _ _ _ _ c.args.self.now.ready _ _ c.requires.1 _ _ c.ends.invariant next (λ e. absurd (omega arith)) _ stretch.0 stretch.1
    (trying_none _ _ _ _ _ _ c.terms-t-items.result.now _ _ _ _ c.loop-t.invariant c.loop-t-test.false)

pub returns-then-m-eq0-clause-fact : goal.returns-then-m-eq0-clause-fact
returns-then-m-eq0-clause-fact c =
    let next = rw c.in-Some.is at c.next_left.ensures.next in
    let under : c.in-Some.from < no_end = rw c.in-Some.is at c.next_left.ensures.below in
    let stretch = c.stretch_end-x.ensures in
    let same = listed-needs _ _ _ _ _ _ _ _ c.args.self.now.ready (omega arith) _ _ c.list_outside-m.ensures.fact in (
      omega arith,
      stretches_found _ _ _ _ _ _ c.args.self.now.ready _ _ c.requires.1 _ _ c.ends.invariant next (λ e. absurd (omega arith)) _ stretch.0 stretch.1 0
          (none_needed _ _ _ _ _ _ (listed-long _ _ _ _ _ _ _ _ c.args.self.now.ready (omega arith) _ _ c.list_outside-m.ensures.fact ∙ c.if-m-eq0.true) same) (omega arith),
    )

pub returns-then-set-lt-NO_SET-clause-fact : goal.returns-then-set-lt-NO_SET-clause-fact
returns-then-set-lt-NO_SET-clause-fact c =
    let loop = c.loop-t in
    let next = rw c.in-Some.is at c.next_left.ensures.next in
    let under : c.in-Some.from < no_end = rw c.in-Some.is at c.next_left.ensures.below in
    let stretch = c.stretch_end-x.ensures in (
      c.if-set-lt-NO_SET.true,
      stretches_found _ _ _ _ _ _ c.args.self.now.ready _ _ c.requires.1 _ _ c.ends.invariant next (λ e. absurd (omega arith)) _ stretch.0 stretch.1 _
          (trying_stop _ _ 0 _ _ _ _ _ loop.t-index loop.rest no_set loop.invariant c.loop-t-test.true _ (sym c.worth.ensures ∙ c.if-worth.true)
          (rw c.union.ensures at c.predicate_step-set.ensures) c.if-set-lt-NO_SET.true)
          c.if-set-lt-NO_SET.true,
    )
