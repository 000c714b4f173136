-- Invariant: the entries before i have both.
use Rattle.numbers.specs.Numbers.{num}
use Rattle.predicates.specs.code.Marks.{mark_of}
use Rattle.state.specs.Layout.{entry_place, entry_at}
use Rattle.state.proofs.StoreLaws.{Column}
use Rattle.entries.proofs.tables.mark_rows.Given as goal

abbrev pub invariant-loop-i : goal.invariant-loop-i
invariant-loop-i l =
    Column (λ k. num (entry_place k) 4 l.s) l.i l.initial.counts l.counts × Column (λ k. mark_of (entry_at l.s k)) l.i l.initial.marks l.marks
