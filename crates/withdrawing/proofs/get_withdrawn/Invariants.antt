-- Invariant: the first r rows are what is left of the first i data.
use Rattle.std.proofs.Common.{◌≡◌, ◌≤◌, All, map, take}
use Rattle.numbers.specs.Numbers.{tab}
use Rattle.state.specs.Layout.{datum_at}
use Rattle.state.specs.code.Tables.{HeldFits, datum_in}
use Rattle.steps.specs.Withdrawn.{withdrawn_data}
use Rattle.withdrawing.proofs.get_withdrawn.Given as goal

abbrev pub invariant-loop-i : goal.invariant-loop-i
invariant-loop-i l =
    (l.r ≤ l.i) × All HeldFits (take l.r l.held) × (map datum_in (take l.r l.held) ≡ withdrawn_data l.risen (tab l.i (datum_at l.s)))
