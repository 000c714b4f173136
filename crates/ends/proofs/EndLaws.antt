-- Laws of ends in two numbers (`specs.Ends`): what a count says of the two.
-- Assumes nothing.
use Prim.Native.Nat.{ℕ, ◌/◌, ◌%◌, ◌<◌}
use mathlib.Core.Path.{◌≡◌}
use mathlib.Core.Bool.{not}
use native.Mathlib.Decide.{dec_lt}
use native.Mathlib.Omega.{arith}
use lib.Dec.{ltb, leb}
use borrow.Author.Tests.{lt-ltb, le-ltb, lt-leb, le-leb}
use Rattle.ends.specs.Ends.{million, count}

-- an end is at most another: that does not precede it
pub not_precedes : (a b : ℕ) → not (ltb b a) ≡ leb a b
not_precedes a b = go (dec_lt b a)
  where
    go : Dec (b < a) → not (ltb b a) ≡ leb a b
    go (yes h) = rw (lt-ltb b a h, lt-leb a b h)
    go (no h) = rw (le-ltb b a (omega arith), le-leb a b (omega arith))

-- the two numbers are read off the count
module _ (w p : ℕ) (a : p < million) where
  pub count-whole : count w p / million ≡ w
  count-whole = omega arith

  pub count_millionths : count w p % million ≡ p
  count_millionths = omega arith

-- and every count is one of two numbers
pub count-parts : (x : ℕ) → count (x / million) (x % million) ≡ x
count-parts x = omega arith

pub millionths_split : (x : ℕ) → x % million < million
millionths_split x = omega arith
