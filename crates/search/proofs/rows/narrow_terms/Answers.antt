-- `narrow_terms` meets its contract, from the last term to the first.
use Prim.Native.Nat.{◌+◌, ◌-◌, ◌<◌}
use mathlib.Core.Path.{◌≡◌}
use native.Mathlib.Omega.{arith}
use borrow.Author.Rules.{rules}
use lib.Count.{ones}
use lib.ListN.{length}
use Rattle.predicates.proofs.IndexLaws.{at_in}
use Rattle.search.proofs.SearchSteps.{terms_hold, terms_false, terms_with, terms_past, terms-done, terms-start}
use Rattle.search.proofs.rows.narrow_terms.Goals as goal

pub loop-i-init : goal.loop-i-init
loop-i-init c =
    let a = c.args in
    let start = terms-start a.base (ones a.set + 1) a.set a.p.now in
    (search rules, start.0, start.1)

pub returns-then-added-eq0 : goal.returns-then-added-eq0
returns-then-added-eq0 c =
    let p = c.args.p.now in
    let in-front : c.loop-i.i - 1 < length p = omega (arith, c.loop-i.invariant.0, c.loop-i-test.true) in
    terms_hold _ p _ _ _ _ (at_in p 0 (c.loop-i.i - 1) in-front)
    c.minus-added.ensures c.if-added-eq0.true

pub loop-i-preserved-then-count-eq1 : goal.loop-i-preserved-then-count-eq1
loop-i-preserved-then-count-eq1 c =
    let inv = c.loop-i.invariant in (
      omega arith,
      terms_with _ _ _ c.loop-i.i _ _ c.loop-i-test.true inv.0 inv.1 inv.2 c.minus-added.ensures
          c.if-added-eq0.false _ c.count.ensures.0 c.if-count-eq1.true _ _
          c.union.ensures c.union-does.ensures,
      terms_false _ _ _ c.loop-i.i _ _ c.loop-i-test.true inv.0 inv.1 inv.2 c.minus-added.ensures
          c.if-added-eq0.false,
    )

pub loop-i-preserved : goal.loop-i-preserved
loop-i-preserved c =
    let inv = c.loop-i.invariant in (
      omega arith,
      terms_past _ _ _ c.loop-i.i _ _ c.loop-i-test.true inv.0 inv.1 inv.2 c.minus-added.ensures
          c.if-added-eq0.false _ c.count.ensures.0 c.if-count-eq1.false,
      terms_false _ _ _ c.loop-i.i _ _ c.loop-i-test.true inv.0 inv.1 inv.2 c.minus-added.ensures
          c.if-added-eq0.false,
    )

pub returns : goal.returns
returns c =
    let head = c.loop-i in
    let done : head.i ≡ 0 = omega arith in
    terms-done _ _ _ _ _ _ (rw done at head.invariant.1) (rw done at head.invariant.2) c.shared.ensures
