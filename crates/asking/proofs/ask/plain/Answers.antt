-- `asking::ask::plain` meets its contract: each case of the held data and the knowledge is a law of `AskSteps`.
use mathlib.Core.Path.{sym, ◌∙◌}
use native.Mathlib.Omega.{arith}
use borrow.Author.Tests.{ltb-true, ltb-false}
use Rattle.state.specs.Model.{end_limit}
use Rattle.state.specs.Layout.{store_of}
use Rattle.asking.proofs.PlainLaws.{right-below}
use Rattle.asking.proofs.AskSteps.{plain_known, plain_free, plain-apart, plain-between}
use Rattle.asking.proofs.ask.plain.Goals as goal

pub returns-then-known-gt0 : goal.returns-then-known-gt0
returns-then-known-gt0 c = plain_known c.args.s.bytes.now c.args.s.sound _ c.known.ensures.value c.if-known-gt0.true

pub returns-then-held-eq0 : goal.returns-then-held-eq0
returns-then-held-eq0 c =
    plain_free c.args.s.bytes.now c.args.s.sound _ c.known.ensures.value c.if-known-gt0.false _ c.held.ensures.value c.if-held-eq0.true

pub returns-then-precedes : goal.returns-then-precedes
returns-then-precedes c =
    let ends = c.meeting-common.ensures in
    plain-apart c.args.s.bytes.now c.args.s.sound _ c.known.ensures.value c.if-known-gt0.false _ c.held.ensures.value
    c.if-held-eq0.false _ _ ends.0 ends.1 (ltb-true _ _ (sym c.precedes.ensures ∙ c.if-precedes.true))

pub round_up-requires : goal.round_up-requires
round_up-requires c =
    let ends = c.meeting-common.ensures in
    let s = c.args.s.bytes.now in
    (ends.2.1, omega (arith, ends.1, right-below end_limit (store_of s).held))

pub returns : goal.returns
returns c =
    let ends = c.meeting-common.ensures in
    plain-between c.args.s.bytes.now c.args.s.sound _ c.known.ensures.value c.if-known-gt0.false _ c.held.ensures.value
    c.if-held-eq0.false _ _ ends.0 ends.1 ends.2.0
    (ltb-false _ _ (sym c.precedes.ensures ∙ c.if-precedes.false)) _ c.round_up.ensures
