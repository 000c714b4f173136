-- Invariant: it is the least of the ends in places `from` to i.
use Prim.Native.Nat.{ℕ, ◌≤◌}
use mathlib.Core.Path.{◌≡◌}
use mathlib.Core.List.{map}
use Rattle.search.specs.declared.rows.Span.{Span}
use Rattle.search.specs.code.LeftEnds.{Next}
use Rattle.search.proofs.stretches.next_end.Given as goal

abbrev pub invariant-loop-i : goal.invariant-loop-i
invariant-loop-i g l =
    (l.i ≤ l.to) × ((f : Span → ℕ) → ((s : Span) (r : ℕ) → goal.F-post g l.side s r → r ≡ f s) → Next (map f l.ends) l.from l.i l.floor l.least)
