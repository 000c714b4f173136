-- `monitor::try_message_read` meets its contract: refused, by what was read; too short an output; or the four numbers at its front.
use Rattle.std.proofs.Common.{sym}
use Rattle.std.proofs.lemmas.Result.{err_from_is_err_and}
use borrow.Author.Tests.{lt-ltb, le-ltb}
use Rattle.numbers.specs.Numbers.{bytes}
use Rattle.state.specs.Layout.{joined}
use Rattle.state.specs.Refusal.{after}
use Rattle.monitor.specs.Ask.{wide}
use Rattle.monitor.specs.Messages.{reading_bytes, answered, read_number, read_output}
use Rattle.monitor.proofs.MessageCalls.{refused_stays, got_read}
use Rattle.monitor.proofs.try_message_read.Goals as goal

pub returns-in_err-told : goal.returns-in_err-told
unfolding read_number read_output answered after
returns-in_err-told c =
    let p = err_from_is_err_and c.from_residual.result c.from_residual.ensures.1 in
    let e = sym (got_read c.args.message.now _ c.take_words.ensures _ c.in_err-told.ensures.value) in
    record { value = rw (p.1, p.2, e); reading_after = rw e (refused_stays _ _ _ _ e) }

pub returns-then-reading-lt-READING_SIZE : goal.returns-then-reading-lt-READING_SIZE
unfolding read_number read_output answered after reading_bytes bytes
returns-then-reading-lt-READING_SIZE c =
    let e = sym (got_read c.args.message.now _ c.take_words.ensures _ c.in_ok-told.ensures.value) in
    let short = lt-ltb _ _ c.if-reading-lt-READING_SIZE.true in
    record { value = rw (e, short); reading_after = rw (e, short) }

pub returns : goal.returns
unfolding read_number read_output answered after reading_bytes wide joined bytes
returns c =
    let e = sym (got_read c.args.message.now _ c.take_words.ensures _ c.in_ok-told.ensures.value) in
    let long = le-ltb _ _ c.if-reading-lt-READING_SIZE.false in
    record { value = rw (e, long); reading_after = rw (e, long) (rw c.from.ensures at c.put_numbers.ensures) }
