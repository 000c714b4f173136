-- Invariant: the bytes stored so far, and those of what is left of x, are those of x.
use Prim.Native.Nat.{◌-◌}
use mathlib.Core.Path.{◌≡◌}
use mathlib.Core.List.{◌++◌}
use lib.ListN.{take}
use Rattle.numbers.specs.Numbers.{bytes}
use Rattle.numbers.proofs.put_num.Given as goal

abbrev pub invariant-loop-b : goal.invariant-loop-b
invariant-loop-b l = take l.b-index l.b-items ++ bytes (l.n - l.b-index) l.rest ≡ bytes l.n l.x
