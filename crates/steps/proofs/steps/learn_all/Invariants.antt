-- Invariant: the entries are those that the data before this one have taught, and the loan is as it was.
use Rattle.std.proofs.Common.{◌≡◌, ◌+◌, ◌≤◌, map, take}
use Rattle.steps.specs.Steps.{learnt}
use Rattle.state.specs.code.Tables.{datum_of, datum_in}
use Rattle.entries.specs.code.Rows.{known, Kept}
use Rattle.steps.proofs.steps.learn_all.Given as goal

abbrev pub invariant-loop-row : goal.invariant-loop-row
invariant-loop-row l =
    Kept l.initial.entries l.entries × (l.entries.n ≤ l.initial.entries.n + l.row-index)
    × (known l.entries ≡ learnt (datum_of l.new l.p) (map datum_in (take l.row-index l.held)) (known l.initial.entries))
