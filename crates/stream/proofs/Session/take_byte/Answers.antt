-- `stream::Session::take_byte` meets its contract: a line feed ends the line; another byte stands behind the line's, as long as there are not 601.
-- Assumes nothing.
use Rattle.std.proofs.Common.{arith, length-set}
use borrow.Author.Tests.{eq-eqb, ne_eqb}
use Rattle.numbers.specs.Numbers.{put}
use Rattle.stream.specs.Kept.{kept_next, text_next}
use Rattle.stream.proofs.StreamLaws.{kept_byte, kept_full, zeros_byte}
use Rattle.stream.proofs.Session.take_byte.Goals as goal

pub returns-then-b-eq10 : goal.returns-then-b-eq10
unfolding kept_next text_next
returns-then-b-eq10 c =
    let feed = eq-eqb _ _ c.if-b-eq10.true in
    let call = c.end_line.ensures in
    (rw feed call.0, rw feed call.1, call.2, rw feed call.3)

pub invariant_of-self : goal.invariant_of-self
invariant_of-self c =
    let s = c.self.inside in
    let held = c.self.invariant in
    (omega arith, rw length-set held.1, zeros_byte s.line s.size c.args.b held.2 (omega arith))

pub returns-then-self-le-LINE_MOST : goal.returns-then-self-le-LINE_MOST
unfolding kept_next text_next put
returns-then-self-le-LINE_MOST c =
    let s = c.self.inside in
    let other = ne_eqb _ _ c.if-b-eq10.false in
    let line = kept_byte s.line s.size c.args.b (omega arith) (omega arith) in
    (rw (← c.self.view_is, other, line), rw other, omega arith, rw other)

pub returns-else-self-le-LINE_MOST : goal.returns-else-self-le-LINE_MOST
unfolding kept_next text_next put
returns-else-self-le-LINE_MOST c =
    let s = c.self.inside in
    let other = ne_eqb _ _ c.if-b-eq10.false in
    let line = kept_full s.line s.size c.args.b (omega arith) (omega arith) (omega arith) in
    (rw (← c.self.view_is, other, ← line), rw other, omega arith, rw other)
