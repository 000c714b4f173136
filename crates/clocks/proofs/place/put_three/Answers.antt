-- `clocks::place::put_three` meets its contract: the flag and three triples, one behind the other.
use native.Mathlib.Omega.{arith}
use Rattle.numbers.proofs.NumberLaws.{put_then, length-bytes}
use Rattle.clocks.specs.Places.{triple_size, saved_bytes}
use Rattle.clocks.proofs.PlaceLaws.{length-triple}
use Rattle.clocks.proofs.place.put_three.Goals as goal

pub returns : goal.returns
unfolding saved_bytes
returns c =
    put_then 4 _ _ _ _ _ _ _ (length-bytes 4 _) (omega arith) c.put32.ensures
    (put_then triple_size _ _ _ _ _ _ _ (length-triple _) (omega arith) c.put_triple.ensures
    (put_then triple_size _ _ _ _ _ _ _ (length-triple _) (omega arith) c.put_triple-2.ensures c.put_triple-3.ensures))
