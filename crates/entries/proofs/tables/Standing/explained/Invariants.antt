-- Invariant: no row before i implies p.
use mathlib.Core.Path.{◌≡◌}
use mathlib.Core.Bool.{false, ◌&&◌}
use Rattle.predicates.specs.Predicates.{implies}
use Rattle.state.specs.code.Tables.{has_terms}
use Rattle.entries.specs.code.Marks.{any_below}
use Rattle.entries.specs.code.Rows.{row_at}
use Rattle.entries.proofs.tables.Standing.explained.Given as goal

abbrev pub invariant-loop-i : goal.invariant-loop-i
invariant-loop-i l = any_below l.i (λ k. has_terms (row_at l.self k) && implies (row_at l.self k) l.p) ≡ false
