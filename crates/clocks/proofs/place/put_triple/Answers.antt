-- `clocks::place::put_triple` meets its contract: three runs of 8 bytes, one behind the other.
use native.Mathlib.Omega.{arith}
use Rattle.numbers.proofs.NumberLaws.{put_then, length-bytes}
use Rattle.clocks.specs.Places.{triple_bytes}
use Rattle.clocks.proofs.place.put_triple.Goals as goal

pub returns : goal.returns
unfolding triple_bytes
returns c =
    put_then 8 _ _ _ _ _ _ _ (length-bytes 8 _) (omega arith) c.put64.ensures
    (put_then 8 _ _ _ _ _ _ _ (length-bytes 8 _) (omega arith) c.put64-2.ensures c.put64-3.ensures)
