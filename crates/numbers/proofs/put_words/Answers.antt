-- `numbers::put_words` meets its contract: turn i stores the four bytes of word i behind those of the words before it (`bytes_of_next`).
-- Assumes nothing.
use mathlib.Core.Path.{refl}
use native.Mathlib.Omega.{arith}
use Rattle.numbers.specs.Numbers.{put, bytes_of}
use Rattle.numbers.proofs.NumberLaws.{bytes_of_next}
use Rattle.numbers.proofs.put_words.Goals as goal

pub loop-i-init : goal.loop-i-init
unfolding put bytes_of
loop-i-init c = refl

pub loop-i-preserved : goal.loop-i-preserved
loop-i-preserved c = bytes_of_next _ c.loop-i.i _ _ _ _ (omega arith) c.loop-i.invariant c.put32.ensures
