-- `monitor::calls::try_set_up` meets its contract: too short a buffer is 24; else all is what `engine::set_up::set_up` answers and leaves.
use borrow.Author.Tests.{lt-ltb, le-ltb}
use Rattle.state.specs.Layout.{state_size}
use Rattle.state.specs.Refusal.{after}
use Rattle.monitor.specs.Calls.{set_up_number, set_up_state}
use Rattle.monitor.proofs.calls.try_set_up.Goals as goal

pub returns-then-state-lt-STATE_SIZE : goal.returns-then-state-lt-STATE_SIZE
unfolding set_up_number set_up_state after
returns-then-state-lt-STATE_SIZE c =
    let short = lt-ltb _ state_size c.if-state-lt-STATE_SIZE.true in
    record { value = rw short; state_after = rw short }

pub returns : goal.returns
unfolding set_up_number set_up_state
returns c =
    let long = le-ltb _ state_size c.if-state-lt-STATE_SIZE.false in
    let number = c.set_up.ensures.value in
    record { value = rw long number; state_after = rw (long, ← number) c.set_up.ensures.state_after }
