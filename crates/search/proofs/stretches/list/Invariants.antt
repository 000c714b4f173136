-- Invariant: those of the first places of the order that are wanted stand at the front.
use Prim.Native.Nat.{ℕ, ◌<◌, ◌≤◌}
use mathlib.Core.Path.{◌≡◌}
use mathlib.Core.Bool.{Bool}
use lib.ListN.{length, get_or}
use Rattle.search.specs.code.LeftEnds.{Listing}
use Rattle.search.proofs.stretches.list.Given as goal

abbrev pub invariant-loop-row : goal.invariant-loop-row
invariant-loop-row g l =
    (l.m ≤ l.row-index)
    × ((f : ℕ → Bool) → ((j : ℕ) (r : Bool) → j < length l.order → goal.F-post g l.wanted (get_or l.order j 0) r → r ≡ f (get_or l.order j 0)) → Listing f l.order l.row-index l.initial.listed l.listed l.m)
