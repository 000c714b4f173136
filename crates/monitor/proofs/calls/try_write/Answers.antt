-- `monitor::calls::try_write` meets its contract: each test gives its number and leaves the output; else the bytes of the held datum's words stand at
-- its front.
use Rattle.std.proofs.Common.{◌≡◌, ◌*◌, cond, ltb, length, arith, rules}
use Rattle.std.proofs.lemmas.Result.{err_from_is_err_and}
use borrow.Author.Tests.{lt-ltb, le-ltb, le-leb, lt-leb}
use Rattle.state.specs.Refusal.{after}
use Rattle.state.proofs.StateLaws.{held_count_le}
use Rattle.state.proofs.LentLaws.{lent_next}
use Rattle.monitor.specs.Calls.{write_number, write_output}
use Rattle.monitor.proofs.MessageCalls.{lent_refused, lent_fine}
use Rattle.monitor.proofs.CallLaws.{length-written_bytes, written_bytes_lem}
use Rattle.monitor.proofs.calls.try_write.Goals as goal
use Rattle.monitor.proofs.calls.try_write.Goals.{After-datum_words-n}

pub returns-in_err-check : goal.returns-in_err-check
unfolding write_number write_output
returns-in_err-check c =
    let p = err_from_is_err_and c.from_residual.result c.from_residual.ensures.1 in
    let made = lent_refused c.args.state.now c.args.message.now _ _ _ c.in_err-check.ensures in
    record { value = rw (p.1, p.2) made.0; message_after = made.1 }

pub returns-then-held-position : goal.returns-then-held-position
unfolding write_number write_output after
returns-then-held-position c =
    let fine = lent_fine _ c.in_ok-check.ensures in
    let none = le-leb _ _ (rw c.held-held.ensures.value at c.if-held-position.true) in
    record { value = rw (lent_next _ _ fine.0 fine.1, none); message_after = rw (lent_next _ _ fine.0 fine.1, none) }

pub held-held-requires : goal.held-held-requires
held-held-requires c = (lent_fine _ c.in_ok-check.ensures).0

pub invariant_of-sound : goal.invariant_of-sound
invariant_of-sound c = let fine = lent_fine _ c.in_ok-check.ensures in record { long = fine.0; sound = fine.1 }

pub datum_words-n-requires : goal.datum_words-n-requires
datum_words-n-requires c =
    let fine = lent_fine _ c.in_ok-check.ensures in
    let few = held_count_le _ fine.1 in
    (omega arith, omega arith, search rules)

-- the state passes its tests, so the output's length decides
tested : (c : After-datum_words-n) → let a = c.args in
    write_number a.state.now a.position a.message.now ≡ cond (ltb (length a.message.now) (c.datum_words-n.result * 4)) 24 0
unfolding write_number
tested c =
    let fine = lent_fine _ c.in_ok-check.ensures in
    let there = lt-leb _ _ (rw c.held-held.ensures.value at c.if-held-position.false) in
    rw (lent_next _ _ fine.0 fine.1, there, c.datum_words-n.ensures.value.0, length-written_bytes)

pub returns-then-message-n : goal.returns-then-message-n
unfolding write_output after
returns-then-message-n c =
    let number = tested (goal.at.returns-then-message-n c).After-datum_words-n in
    let short = lt-ltb _ _ c.if-message-n.true in
    record { value = rw (number, short); message_after = rw (number, short) }

pub returns : goal.returns
unfolding write_output after
returns c =
    let number = tested (goal.at.returns c).After-datum_words-n in
    let long = le-ltb _ _ c.if-message-n.false in
    let written = written_bytes_lem _ _ _ _ _ c.datum_words-n.ensures.value.0 (search rules) c.datum_words-n.ensures.words_after in
    record { value = rw (number, long); message_after = rw (number, long) (rw written at c.put_words.ensures) }
