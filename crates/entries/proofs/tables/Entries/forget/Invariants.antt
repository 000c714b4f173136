-- Invariant: the rows before i have been tested, and all else is as it was.
use mathlib.Core.Path.{◌≡◌}
use lib.ListN.{length}
use Rattle.predicates.specs.Predicates.{implies}
use Rattle.entries.specs.code.Marks.{given_up}
use Rattle.entries.specs.code.Rows.{row_in}
use Rattle.entries.proofs.tables.Entries.forget.Given as goal

abbrev pub invariant-loop-i : goal.invariant-loop-i
invariant-loop-i l =
    (l.self.counts.now ≡ given_up l.i (λ k. implies l.e (row_in l.initial.self k)) l.initial.self.counts.now) × (length l.self.counts.now ≡ length l.initial.self.counts.now)
    × (l.self.state ≡ l.initial.self.state) × (l.self.first ≡ l.initial.self.first) × (l.self.n ≡ l.initial.self.n)
    × (l.self.counts.ghost_name ≡ l.initial.self.counts.ghost_name) × (l.self.masks ≡ l.initial.self.masks) × (l.self.marks ≡ l.initial.self.marks)
