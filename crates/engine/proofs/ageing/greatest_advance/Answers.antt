-- `engine::ageing::greatest_advance` meets its contract: the product is the definition's, and the drift adds no more than d to d.
use Prim.Native.Nat.{◌*◌, ◌≤◌}
use native.Mathlib.Nat.{mul-le-mul_left}
use native.Mathlib.Omega.{arith}
use Rattle.ends.specs.Ends.{million}
use Rattle.engine.specs.Ageing.{greatest_advance}
use Rattle.engine.proofs.AgeLaws.{greatest-drift}
use Rattle.engine.proofs.ageing.greatest_advance.Goals as goal

pub returns : goal.returns
unfolding greatest_advance
returns c =
    let a = c.args in
    let little : a.d * a.r ≤ a.d * million = mul-le-mul_left a.d (omega arith) in
    (c.advance.ensures.0, c.advance.ensures.1, omega (arith, c.advance.ensures.0, greatest-drift a.r a.d, little))
