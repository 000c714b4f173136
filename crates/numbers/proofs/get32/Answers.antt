-- `numbers::get32` meets its contract: the sum is the number in four bytes written out. There is no loop. Assumes nothing.
use Prim.Native.Nat.{ℕ, suc, ◌+◌, ◌*◌, ◌^◌}
use mathlib.Core.Path.{◌≡◌}
use mathlib.Core.List.{List}
use native.Mathlib.Omega.{arith}
use lib.ListN.{get_or}
use Rattle.numbers.specs.Numbers.{num}
use Rattle.numbers.proofs.get32.Goals as goal

-- the number in four bytes as one sum
four : (at : ℕ) (s : List ℕ) → num at 4 s ≡ get_or s at 0 + get_or s (at + 1) 0 * 256 + get_or s (at + 2) 0 * 256 ^ 2 + get_or s (at + 3) 0 * 256 ^ 3
unfolding num
four at s =
    let one : at + 1 ≡ suc at = omega arith in
    let two : at + 2 ≡ suc (suc at) = omega arith in
    let three : at + 3 ≡ suc (suc (suc at)) = omega arith in
    rw (one, two, three) (omega arith)

pub returns : goal.returns
returns c =
    let a = c.args in
    (omega (arith, four a.at a.s.now), omega arith)
