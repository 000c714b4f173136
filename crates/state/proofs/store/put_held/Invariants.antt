-- Invariant: the r data in the first i rows stand in their places, and the bytes behind those are as they were.
use Rattle.std.proofs.Common.{◌≤◌, take}
use Rattle.state.specs.Layout.{datum_bytes}
use Rattle.state.specs.code.Tables.{data_in}
use Rattle.state.proofs.StoreLaws.{Written}
use Rattle.state.proofs.store.put_held.Given as goal

abbrev pub invariant-loop-i : goal.invariant-loop-i
invariant-loop-i l = (l.r ≤ l.i) × Written datum_bytes 60 24 (data_in (take l.i l.held)) l.r l.initial.s l.s
