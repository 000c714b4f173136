-- Invariant: the first ends are turned round, and the others are as they were.
use Prim.Native.Nat.{ℕ, ◌≤◌, ◌<◌}
use mathlib.Core.Path.{◌≡◌}
use lib.ListN.{get_or}
use Rattle.asking.specs.code.Mirror.{mirrored}
use Rattle.asking.proofs.ask.mirror.Given as goal

abbrev pub invariant-loop-span : goal.invariant-loop-span
invariant-loop-span l =
    ((k : ℕ) → k < l.span-index → get_or l.ends k (record { left = 0; right = 0 }) ≡ mirrored l.initial.ends k)
    × ((k : ℕ) → l.span-index ≤ k → get_or l.ends k (record { left = 0; right = 0 }) ≡ get_or l.initial.ends k (record { left = 0; right = 0 }))
