-- `next_end` meets its contract: the least so far is kept.
use Prim.Native.Nat.{◌<◌}
use mathlib.Core.Path.{sym, ◌∙◌}
use native.Mathlib.Omega.{arith}
use lib.ListN.{length}
use Rattle.predicates.proofs.IndexLaws.{get_or_map}
use Rattle.search.proofs.EndSteps.{next_none, next-took, next-passed}
use Rattle.search.proofs.stretches.next_end.Goals as goal
use Rattle.search.proofs.stretches.next_end.Goals.{then-floor-end, else-floor-end}

pub loop-i-init : goal.loop-i-init
loop-i-init g c = (c.requires.within.0, λ f fact. next_none _ _ _)

pub loop-i-preserved : goal.loop-i-preserved
loop-i-preserved g c = (
  omega arith,
  λ f fact.
      let h : c.loop-i.i < length c.args.ends.now = omega (arith, c.loop-i-test.true, c.requires.within.1) in
      let at = fact _ _ c.side-end.ensures ∙ sym (get_or_map f c.args.ends.now (record { left = 0; right = 0 }) 0 c.loop-i.i h) in
      let before = c.loop-i.invariant.1 f fact in
      elim c.if-floor-end.branch [
        | then-floor-end w ↦ rw w.least-is (next-took _ _ c.loop-i.i _ _ c.loop-i.auto.i before _ at w.if-floor-end.true)
        | else-floor-end w ↦ rw w.least-is (next-passed _ _ c.loop-i.i _ _ c.loop-i.auto.i before _ at w.if-floor-end.false)
      ],
)
