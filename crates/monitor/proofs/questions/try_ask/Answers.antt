-- `monitor::questions::try_ask` meets its contract: one refusal after the other; else the numbers of the answer at the front of the output.
use borrow.Author.Tests.{lt-ltb, le-ltb}
use Rattle.std.proofs.lemmas.Result.{err_from_is_err_and}
use Rattle.state.specs.Refusal.{after}
use Rattle.state.proofs.LentLaws.{lent_next}
use Rattle.monitor.specs.Ask.{asked_bytes, ask_number, ask_output}
use Rattle.monitor.proofs.MessageCalls.{lent_refused, lent_fine}
use Rattle.monitor.proofs.questions.try_ask.Goals as goal

pub returns-in_err-check : goal.returns-in_err-check
unfolding ask_number ask_output
returns-in_err-check c =
    let p = err_from_is_err_and c.from_residual.result c.from_residual.ensures.1 in
    let made = lent_refused c.args.state.now c.args.answer.now _ _ _ c.in_err-check.ensures in
    record { value = rw (p.1, p.2) made.0; answer_after = made.1 }

pub returns-then-limit-gt-LIMIT_MOST : goal.returns-then-limit-gt-LIMIT_MOST
unfolding ask_number ask_output after
returns-then-limit-gt-LIMIT_MOST c =
    let fine = lent_fine _ c.in_ok-check.ensures in
    let high = lt-ltb _ _ c.if-limit-gt-LIMIT_MOST.true in
    record { value = rw (lent_next _ _ fine.0 fine.1, high); answer_after = rw (lent_next _ _ fine.0 fine.1, high) }

pub returns-then-answer-lt-ANSWER_SIZE : goal.returns-then-answer-lt-ANSWER_SIZE
unfolding ask_number ask_output after
returns-then-answer-lt-ANSWER_SIZE c =
    let fine = lent_fine _ c.in_ok-check.ensures in
    let low = le-ltb _ _ c.if-limit-gt-LIMIT_MOST.false in
    let short = lt-ltb _ _ c.if-answer-lt-ANSWER_SIZE.true in
    record { value = rw (lent_next _ _ fine.0 fine.1, low, short); answer_after = rw (lent_next _ _ fine.0 fine.1, low, short) }

pub invariant_of-ask : goal.invariant_of-ask
invariant_of-ask c =
    let fine = lent_fine _ c.in_ok-check.ensures in
    record { long = fine.0; sound = fine.1 }

pub returns : goal.returns
unfolding ask_number ask_output asked_bytes after
returns c =
    let fine = lent_fine _ c.in_ok-check.ensures in
    let low = le-ltb _ _ c.if-limit-gt-LIMIT_MOST.false in
    let long = le-ltb _ _ c.if-answer-lt-ANSWER_SIZE.false in
    record {
      value = rw (lent_next _ _ fine.0 fine.1, low, long);
      answer_after = rw (lent_next _ _ fine.0 fine.1, low, long, ← c.ask-got.ensures, ← c.answer_numbers.ensures) c.put_numbers.ensures;
    }
