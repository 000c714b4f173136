-- `receipts::hearing::forget` meets its contract. A turn is `forget-place` or `forget-none` of `proofs.HearingCalls`.
use mathlib.Core.Path.{sym, ◌∙◌}
use native.Mathlib.Omega.{arith}
use Rattle.numbers.specs.Numbers.{Bytes}
use Rattle.receipts.proofs.HearingCalls.{forget-start, forget-place, forget-none, forget-done}
use borrow.Author.Rules.{rules}
use Rattle.receipts.proofs.hearing.forget.Goals as goal
use Rattle.receipts.proofs.hearing.forget.Goals.{else-has, then-has}

pub loop-i-init : goal.loop-i-init
unfolding Bytes
loop-i-init c = forget-start c.args.state.now c.requires.1 c.requires.0 c.args.risen (search rules)

pub loop-i-preserved : goal.loop-i-preserved
loop-i-preserved c =
    let s = c.args.state.now in
    let i = c.loop-i.i in
    let r = c.args.risen in
    elim c.if-has.branch [
      | then-has x ↦ forget-place s c.requires.1 c.requires.0 r i _ c.if-has.state c.loop-i-test.true (sym c.has.ensures ∙ x.if-has.true) c.loop-i.invariant (x.state-is ∙ x.clear.ensures)
      | else-has x ↦ x.state-is ∙ forget-none s c.requires.1 c.requires.0 r i _ (sym c.has.ensures ∙ x.if-has.false) c.loop-i.invariant
    ]

pub returns : goal.returns
returns c =
    forget-done c.args.state.now c.requires.1 c.requires.0 c.args.risen c.loop-i.i _ (omega (arith, c.loop-i.auto.i-end, c.loop-i-test.false)) c.loop-i.invariant
