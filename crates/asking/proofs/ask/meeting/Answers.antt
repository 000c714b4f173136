-- `asking::ask::meeting` meets its contract: the ends of one held datum after the other are taken in.
use Prim.Native.Nat.{◌≤◌, ◌<◌}
use mathlib.Core.Path.{refl, sym, ap, ◌∙◌}
use native.Mathlib.Omega.{arith}
use Rattle.ends.specs.Ends.{count_of}
use Rattle.ends.specs.declared.Ends.{Ends}
use Rattle.state.specs.Layout.{held_count, datum_at}
use Rattle.state.specs.code.Tables.{ends_at}
use Rattle.state.proofs.StateLaws.{held_count_le}
use Rattle.claims.proofs.KeyLaws.{ends-stored}
use Rattle.asking.proofs.AskSteps.{greatest_left-turn, greatest_left-done, least_right-turn, least_right-done}
use borrow.Author.Rules.{rules}
use Rattle.asking.proofs.ask.meeting.Goals as goal

pub loop-i-init : goal.loop-i-init
loop-i-init c = (refl, refl, search rules, search rules)

pub get-next-requires : goal.get-next-requires
get-next-requires c =
    (c.args.s.long, omega (arith, held_count_le _ c.args.s.sound, c.held-i-end.ensures.value, c.loop-i-test.true))

pub later-left-requires : goal.later-left-requires
later-left-requires c =
    (c.loop-i.invariant.2, (ends-stored _ c.args.s.sound _ (omega (arith, c.held-i-end.ensures.value, c.loop-i-test.true)) _ c.get-next.ensures).0.0)

pub earlier-right-requires : goal.earlier-right-requires
earlier-right-requires c =
    (c.loop-i.invariant.3, (ends-stored _ c.args.s.sound _ (omega (arith, c.held-i-end.ensures.value, c.loop-i-test.true)) _ c.get-next.ensures).1.0)

pub loop-i-preserved : goal.loop-i-preserved
unfolding datum_at ends_at
loop-i-preserved c =
    let s = c.args.s.bytes.now in
    let i = c.loop-i.i in
    let h : i < held_count s = omega (arith, c.held-i-end.ensures.value, c.loop-i-test.true) in
    let read = c.get-next.ensures in (
      greatest_left-turn s i h _ _ _ (ap (λ (e : Ends). count_of e.left) read) c.later-left.ensures.0 ∙ c.loop-i.invariant.0,
      least_right-turn s i h _ _ _ (ap (λ (e : Ends). count_of e.right) read) c.earlier-right.ensures.0 ∙ c.loop-i.invariant.1,
      c.later-left.ensures.1,
      c.earlier-right.ensures.1,
    )

pub returns : goal.returns
returns c =
    let done : held_count c.args.s.bytes.now ≤ c.loop-i.i = omega (arith, c.held-i-end.ensures.value, c.loop-i-test.false) in (
      sym (greatest_left-done c.args.s.bytes.now c.loop-i.i (count_of c.loop-i.left) done) ∙ c.loop-i.invariant.0,
      sym (least_right-done c.args.s.bytes.now c.loop-i.i (count_of c.loop-i.right) done) ∙ c.loop-i.invariant.1,
      (c.loop-i.invariant.2, c.loop-i.invariant.3),
    )
