-- `engine::ageing::least_advance` meets its contract: the product is the definition's, and the drift only takes from d.
use native.Mathlib.Omega.{arith}
use Rattle.engine.specs.Ageing.{least_advance}
use Rattle.engine.proofs.AgeLaws.{least-drift}
use Rattle.engine.proofs.ageing.least_advance.Goals as goal

pub returns : goal.returns
unfolding least_advance
returns c =
    let drift = least-drift c.args.r c.args.d (omega arith) in
    (c.advance.ensures.0, c.advance.ensures.1, omega (arith, c.advance.ensures.0, drift))
