-- Invariant: the r entries in the first i rows stand in their places, and the bytes behind those are as they were.
use Rattle.std.proofs.Common.{◌≤◌}
use Rattle.state.specs.Layout.{entry_bytes}
use Rattle.state.specs.code.Tables.{table_from, entries_in}
use Rattle.state.proofs.StoreLaws.{Written}
use Rattle.state.proofs.store.put_known.Given as goal

abbrev pub invariant-loop-i : goal.invariant-loop-i
invariant-loop-i l = (l.r ≤ l.i) × Written entry_bytes 68 984 (entries_in l.i (table_from l.first l.initial.s l.counts l.masks)) l.r l.initial.s l.s
