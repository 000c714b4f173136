-- `numbers::get64` meets its contract: eight bytes are four and four, `num_add`. Assumes nothing.
use native.Mathlib.Omega.{arith}
use Rattle.numbers.proofs.NumberLaws.{num_add}
use Rattle.numbers.proofs.get64.Goals as goal

pub returns : goal.returns
returns c =
    let a = c.args in
    (omega (arith, num_add 4 4 a.at a.s.now), omega arith)
