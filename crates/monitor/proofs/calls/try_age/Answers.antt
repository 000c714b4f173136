-- `monitor::calls::try_age` meets its contract: what the first tests refuse stays as it was (`lent_refused`); else all is what `engine::ageing::age`
-- answers and leaves.
use Rattle.std.proofs.lemmas.Result.{err_from_is_err_and}
use Rattle.state.proofs.LentLaws.{lent_next}
use Rattle.monitor.specs.Calls.{age_number, age_state}
use Rattle.monitor.proofs.MessageCalls.{lent_refused, lent_fine}
use Rattle.monitor.proofs.calls.try_age.Goals as goal

pub returns-in_err-check : goal.returns-in_err-check
unfolding age_number age_state
returns-in_err-check c =
    let p = err_from_is_err_and c.from_residual.result c.from_residual.ensures.1 in
    let made = lent_refused c.args.state.now c.args.state.now _ _ _ c.in_err-check.ensures in
    record { value = rw (p.1, p.2) made.0; state_after = made.1 }

pub age-requires : goal.age-requires
age-requires c = lent_fine _ c.in_ok-check.ensures

pub returns : goal.returns
unfolding age_number age_state
returns c =
    let fine = lent_fine _ c.in_ok-check.ensures in
    let number = c.age.ensures.value in
    record { value = rw (lent_next _ _ fine.0 fine.1) number; state_after = rw (lent_next _ _ fine.0 fine.1, ← number) c.age.ensures.state_after }
