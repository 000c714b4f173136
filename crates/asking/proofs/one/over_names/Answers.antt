-- `asking::one::over_names` meets its contract: one name after the other widens what is left.
use mathlib.Core.Path.{refl}
use native.Mathlib.Omega.{arith}
use Rattle.numbers.proofs.NumberLaws.{above_zero}
use Rattle.names.proofs.SetLaws.{subset_refl}
use Rattle.asking.proofs.OneLaws.{walk_start, walk_end, walk-name, walk_less, walk-within}
use Rattle.asking.proofs.OneSteps.{over-turn}
use Rattle.asking.proofs.one.over_names.Goals as goal

pub loop-rest-init : goal.loop-rest-init
loop-rest-init c = (subset_refl _, λ ds kept lacks plain w. rw (walk_start _) w)

pub span-requires : goal.span-requires
span-requires c =
    let head = c.loop-rest in
    let name = walk-name _ _ head.invariant.0 (above_zero c.loop-rest-test.true) _ _ c.least_name-name.ensures refl in
    (c.requires, omega (arith, name.0))

pub loop-rest-smaller : goal.loop-rest-smaller
loop-rest-smaller c =
    let head = c.loop-rest in
    walk_less _ _ head.invariant.0 (above_zero c.loop-rest-test.true) _ _ c.least_name-name.ensures c.minus-rest.ensures

pub loop-rest-preserved : goal.loop-rest-preserved
loop-rest-preserved c =
    let head = c.loop-rest in
    let some = above_zero c.loop-rest-test.true in
    let wide = c.widened-widest.ensures in (
      walk-within _ _ head.invariant.0 some _ _ c.least_name-name.ensures c.minus-rest.ensures,
      λ ds kept lacks plain w.
          let ends = c.span.ensures ds kept in
          over-turn ds kept _ _ head.invariant.0 some _ c.least_name-name.ensures _ _ ends.0 ends.1 lacks _ c.minus-rest.ensures plain _ _ _ _
          (head.invariant.1 ds kept lacks plain w) wide.0 wide.1,
    )

pub returns : goal.returns
returns c =
    let head = c.loop-rest in λ ds kept lacks plain w. rw (c.loop-rest-test.false, walk_end _) at (head.invariant.1 ds kept lacks plain w)
