-- Invariant: the state is stored in which the places of the identifiers passed are cleared as far as they have risen (`cleared_below`).
use mathlib.Core.Path.{◌≡◌}
use Rattle.numbers.specs.Numbers.{put}
use Rattle.state.specs.Model.{with_clocks}
use Rattle.state.specs.Layout.{state_bytes, head_of, store_of}
use Rattle.engine.specs.code.Hearing.{cleared_below}
use Rattle.receipts.proofs.hearing.forget.Given as goal

abbrev pub invariant-loop-i : goal.invariant-loop-i
invariant-loop-i l =
    l.state ≡ put 0 (state_bytes (record { head = with_clocks (head_of l.initial.state) (cleared_below l.i l.risen (head_of l.initial.state).clocks); store = store_of l.initial.state })) l.initial.state
