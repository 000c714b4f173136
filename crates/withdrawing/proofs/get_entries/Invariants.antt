-- Invariant: the first r rows are what is left of the first i entries.
use Prim.Native.Nat.{◌≤◌}
use mathlib.Core.Path.{◌≡◌}
use Rattle.numbers.specs.Numbers.{tab}
use Rattle.state.specs.Layout.{entry_count, entry_at}
use Rattle.state.specs.code.Tables.{table, TableFits, row_of}
use Rattle.entries.specs.Entries.{withdrawn_entries}
use Rattle.withdrawing.proofs.get_entries.Given as goal

abbrev pub invariant-loop-i : goal.invariant-loop-i
invariant-loop-i l =
    (l.r ≤ l.i) × TableFits 16 (entry_count l.s) (table l.counts l.masks) × (tab l.r (row_of 16 (table l.counts l.masks)) ≡ withdrawn_entries l.risen (tab l.i (entry_at l.s)))
