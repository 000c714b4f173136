-- Invariant: the first i rows are the first i data.
use Rattle.std.proofs.Common.{◌≡◌, take}
use Rattle.numbers.specs.Numbers.{tab}
use Rattle.state.specs.code.Tables.{datum_row}
use Rattle.state.proofs.store.get_data.Given as goal

abbrev pub invariant-loop-i : goal.invariant-loop-i
invariant-loop-i l = take l.i l.held ≡ tab l.i (datum_row l.s)
