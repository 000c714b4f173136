-- `numbers::get_words` meets its contract: turn i stores word i of s at i (`tab_next`). Assumes nothing.
use Prim.Native.Nat.{ℕ, ◌+◌, ◌*◌}
use mathlib.Core.Path.{refl}
use native.Mathlib.Omega.{arith}
use Rattle.numbers.specs.Numbers.{num, tab}
use Rattle.numbers.proofs.NumberLaws.{tab_next}
use Rattle.numbers.proofs.get_words.Goals as goal

pub loop-i-init : goal.loop-i-init
unfolding tab
loop-i-init c = refl

pub loop-i-preserved : goal.loop-i-preserved
loop-i-preserved c =
    let at = c.loop-i in
    let word = λ (k : ℕ). num (c.args.at + k * 4) 4 c.args.s.now in tab_next word at.i _ at.out (omega arith) c.get32.ensures.0 at.invariant
