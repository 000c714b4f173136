-- `monitor::receive::receive` meets its contract: one refusal after the other, and then what `receive_message` answers and leaves.
use Rattle.std.proofs.Common.{sym, ◌∙◌}
use Rattle.std.proofs.lemmas.Result.{err_from_is_err_and}
use Rattle.state.specs.Refusal.{after}
use Rattle.state.proofs.LentLaws.{lent_next}
use Rattle.monitor.specs.Receive.{receive_number, receive_state}
use Rattle.monitor.proofs.MessageCalls.{delays_fit, lent_refused, lent_fine}
use Rattle.monitor.proofs.receive.receive.Goals as goal

pub returns-in_err-check : goal.returns-in_err-check
unfolding receive_number receive_state
returns-in_err-check c =
    let p = err_from_is_err_and c.from_residual.result c.from_residual.ensures.1 in
    let made = lent_refused c.args.state.now c.args.state.now _ _ _ c.in_err-check.ensures in
    record { value = rw (p.1, p.2) made.0; state_after = made.1 }

pub returns-then-fail : goal.returns-then-fail
unfolding receive_number receive_state after
returns-then-fail c =
    let fine = lent_fine _ c.in_ok-check.ensures in
    let fail = sym c.fail.ensures ∙ c.if-fail.true in
    record { value = rw (lent_next _ _ fine.0 fine.1, fail); state_after = rw (lent_next _ _ fine.0 fine.1, fail) }

pub returns-then-readings_fail : goal.returns-then-readings_fail
unfolding receive_number receive_state after
returns-then-readings_fail c =
    let fine = lent_fine _ c.in_ok-check.ensures in
    let delays = sym c.fail.ensures ∙ c.if-fail.false in
    let fail = sym c.readings_fail.ensures ∙ c.if-readings_fail.true in
    record { value = rw (lent_next _ _ fine.0 fine.1, delays, fail); state_after = rw (lent_next _ _ fine.0 fine.1, delays, fail) }

pub receive_message-requires : goal.receive_message-requires
receive_message-requires c =
    let fine = lent_fine _ c.in_ok-check.ensures in
    let delays = delays_fit _ _ (sym c.fail.ensures ∙ c.if-fail.false) in
    record {
      state_size_in_bounds = (fine.0, fine.1);
      least_le_greatest = (delays.0, delays.1, rw (sym c.readings_fail.ensures ∙ c.if-readings_fail.false) tt);
    }

pub returns : goal.returns
unfolding receive_number receive_state
returns c =
    let fine = lent_fine _ c.in_ok-check.ensures in
    let delays = sym c.fail.ensures ∙ c.if-fail.false in
    let fit = sym c.readings_fail.ensures ∙ c.if-readings_fail.false in
    let made = c.receive_message.ensures in
    record {
      value = rw (lent_next _ _ fine.0 fine.1, delays, fit) made.result_value;
      state_after = rw (lent_next _ _ fine.0 fine.1, delays, fit, ← made.result_value) made.state_after;
    }
