-- Invariant: what has been kept so far is as many terms as were tested at most, and stands in front (`Sifted`).
use Prim.Native.Nat.{ℕ, ◌≤◌}
use mathlib.Core.Bool.{Bool}
use mathlib.Core.List.{List}
use Rattle.predicates.specs.code.Sifts.{Tells}
use Rattle.predicates.proofs.PlaceLaws.{Sifted}
use Rattle.predicates.proofs.sift.sift.Given as goal

abbrev pub invariant-loop-i : goal.invariant-loop-i
invariant-loop-i g l = (l.kept ≤ l.i) × ((test : List ℕ → ℕ → Bool) → Tells (goal.F-post g l.strikes) test → Sifted test l.initial.terms l.terms l.kept l.i)
