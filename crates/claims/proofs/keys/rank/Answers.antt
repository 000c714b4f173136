-- `claims::keys::rank` meets its contract: one part after the other is compared.
use mathlib.Core.Path.{refl}
use native.Mathlib.Omega.{arith}
use native.Mathlib.Nat.{le_refl}
use Rattle.claims.specs.code.Keys.{below}
use Rattle.claims.proofs.KeyLaws.{rank-more, rank_same}
use Rattle.claims.proofs.keys.rank.Goals as goal
use Rattle.claims.proofs.keys.rank.Goals.{then-part-x, else-part-x}

pub loop-part-init : goal.loop-part-init
unfolding below
loop-part-init c = (le_refl 0, refl)

pub loop-part-preserved : goal.loop-part-preserved
loop-part-preserved c =
    let inv = c.loop-part.invariant in
    elim c.if-part-x.branch [
      | then-part-x w ↦ rw w.r-is (omega arith, rank-more _ _ _ _ inv.1 w.if-part-x.true)
      | else-part-x w ↦ rw w.r-is (omega arith, rank_same _ _ _ _ inv.1 w.if-part-x.false)
    ]
