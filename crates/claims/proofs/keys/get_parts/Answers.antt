-- `claims::keys::get_parts` meets its contract: turn j stores the millionths of end j.
use Prim.Native.Nat.{◌<◌}
use native.Mathlib.Omega.{arith}
use lib.ListN.{length}
use Rattle.claims.specs.code.Keys.{millionths_at}
use Rattle.claims.proofs.TableLaws.{filled-array, filled-next}
use Rattle.claims.proofs.keys.get_parts.Goals as goal

pub loop-j-preserved : goal.loop-j-preserved
unfolding millionths_at
loop-j-preserved c =
    let room : c.loop-j.j < length c.loop-j.parts = omega arith in
    filled-next 0 (millionths_at c.args.s.now) c.loop-j.j _ c.loop-j.parts room c.get32.ensures.0 c.loop-j.invariant

pub returns : goal.returns
returns c = filled-array 0 _ _ _ c.loop-j.auto.parts (λ k h. c.loop-j.invariant k (omega arith))
