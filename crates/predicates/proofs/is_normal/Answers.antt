-- `predicates::is_normal` meets its contract: each term is held against the part behind it, and the loop stops at the first that may not stand
-- there.
use mathlib.Core.Path.{sym, ◌∙◌}
use Rattle.predicates.proofs.LoopLaws.{normal_stop, normal_next, normal-done}
use Rattle.predicates.proofs.is_normal.Goals as goal

pub returns-then-not-precedes_all : goal.returns-then-not-precedes_all
returns-then-not-precedes_all c =
    let at_head = c.loop-i in
    sym (at_head.invariant ∙ normal_stop _ at_head.i c.loop-i-test.true _ c.precedes_all.ensures c.if-not-precedes_all.true)

pub loop-i-preserved : goal.loop-i-preserved
loop-i-preserved c =
    let at_head = c.loop-i in
    at_head.invariant ∙ normal_next _ at_head.i c.loop-i-test.true _ c.precedes_all.ensures c.if-not-precedes_all.false

pub returns : goal.returns
returns c = sym (c.loop-i.invariant ∙ normal-done _ c.loop-i.i c.loop-i-test.false)
