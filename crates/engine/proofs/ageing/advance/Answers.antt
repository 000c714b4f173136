-- `engine::ageing::advance` meets its contract: both products fit, and both numbers together are the product of d and the rate (`drift_split`).
use Prim.Native.Nat.{◌*◌, ◌%◌, ◌≤◌}
use native.Mathlib.Nat.{mul-le-mul_left}
use native.Mathlib.Omega.{arith}
use Rattle.engine.proofs.AgeLaws.{drift_split}
use Rattle.engine.proofs.ageing.advance.Goals as goal

pub overflow_mul-low : goal.overflow_mul-low
overflow_mul-low c = let low : c.args.d % 1_000_000 * c.args.rate ≤ c.args.d % 1_000_000 * 1_001_000 = mul-le-mul_left (c.args.d % 1_000_000) (omega arith) in omega arith

pub returns : goal.returns
returns c = (drift_split c.args.rate c.args.d, omega arith)
