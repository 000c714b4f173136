-- `list` meets its contract: the rows that are wanted are stored one behind the other.
use mathlib.Core.Path.{sym, ◌∙◌}
use native.Mathlib.Nat.{le_refl}
use native.Mathlib.Omega.{arith}
use Rattle.search.proofs.EndSteps.{listing_none, listing_take, listing_pass}
use Rattle.search.proofs.stretches.list.Goals as goal
use Rattle.search.proofs.stretches.list.Goals.{then-wanted, else-wanted}

pub loop-row-init : goal.loop-row-init
loop-row-init g c = (le_refl 0, λ f fact. listing_none _ _ _)

pub loop-row-preserved : goal.loop-row-preserved
loop-row-preserved g c = (
  elim c.if-wanted.branch [ then-wanted w ↦ omega arith | else-wanted w ↦ omega arith ],
  λ f fact.
      let h = c.loop-row-test.true in
      let i = c.loop-row.row-index in
      let test = sym (fact i _ h c.wanted.ensures) in
      let before = c.loop-row.invariant.1 f fact in
      elim c.if-wanted.branch [
        | then-wanted w ↦ rw (w.listed-is, w.m-is) (listing_take _ _ i _ _ _ h before (test ∙ w.if-wanted.true))
        | else-wanted w ↦ rw (w.listed-is, w.m-is) (listing_pass _ _ i _ _ _ h before (test ∙ w.if-wanted.false))
      ],
)
