-- Invariant: taking in the data from i on gives what taking in all of them gives.
use mathlib.Core.Path.{◌≡◌}
use lib.ListN.{drop}
use Rattle.ends.specs.Ends.{count_of, Split}
use Rattle.state.specs.Model.{end_limit}
use Rattle.state.specs.Layout.{store_of}
use Rattle.asking.specs.code.Plain.{greatest_left, least_right}
use Rattle.asking.proofs.ask.meeting.Given as goal

abbrev pub invariant-loop-i : goal.invariant-loop-i
invariant-loop-i l =
    (greatest_left (count_of l.left) (drop l.i (store_of l.s.bytes.now).held) ≡ greatest_left 0 (store_of l.s.bytes.now).held)
    × (least_right (count_of l.right) (drop l.i (store_of l.s.bytes.now).held) ≡ least_right end_limit (store_of l.s.bytes.now).held) × Split l.left × Split l.right
