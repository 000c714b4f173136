-- `monitor::questions::try_fewest` meets its contract: one refusal after the other; else the numbers of the fewest failures at the front of the
-- output.
use borrow.Author.Tests.{lt-ltb, le-ltb}
use Rattle.std.proofs.lemmas.Result.{err_from_is_err_and}
use Rattle.state.specs.Refusal.{after}
use Rattle.state.proofs.LentLaws.{lent_next}
use Rattle.monitor.specs.Ask.{fewest_bytes, fewest_number, fewest_output}
use Rattle.monitor.proofs.MessageCalls.{lent_refused, lent_fine}
use Rattle.monitor.proofs.questions.try_fewest.Goals as goal

pub returns-in_err-check : goal.returns-in_err-check
unfolding fewest_number fewest_output
returns-in_err-check c =
    let p = err_from_is_err_and c.from_residual.result c.from_residual.ensures.1 in
    let made = lent_refused c.args.state.now c.args.answer.now _ _ _ c.in_err-check.ensures in
    record { value = rw (p.1, p.2) made.0; answer_after = made.1 }

pub returns-then-answer-lt-FEWEST_SIZE : goal.returns-then-answer-lt-FEWEST_SIZE
unfolding fewest_number fewest_output after
returns-then-answer-lt-FEWEST_SIZE c =
    let fine = lent_fine _ c.in_ok-check.ensures in
    let short = lt-ltb _ _ c.if-answer-lt-FEWEST_SIZE.true in
    record { value = rw (lent_next _ _ fine.0 fine.1, short); answer_after = rw (lent_next _ _ fine.0 fine.1, short) }

pub invariant_of-fewest_failures : goal.invariant_of-fewest_failures
invariant_of-fewest_failures c =
    let fine = lent_fine _ c.in_ok-check.ensures in
    record { long = fine.0; sound = fine.1 }

pub returns : goal.returns
unfolding fewest_number fewest_output fewest_bytes after
returns c =
    let fine = lent_fine _ c.in_ok-check.ensures in
    let long = le-ltb _ _ c.if-answer-lt-FEWEST_SIZE.false in
    record {
      value = rw (lent_next _ _ fine.0 fine.1, long);
      answer_after = rw (lent_next _ _ fine.0 fine.1, long, ← c.fewest_failures-got.ensures, ← c.fewest_numbers.ensures) c.put_numbers.ensures;
    }
