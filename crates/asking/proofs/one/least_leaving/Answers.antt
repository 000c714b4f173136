-- `asking::one::least_leaving` meets its contract: the names come in rising order, so the first that leaves an instant is the least.
use mathlib.Core.Path.{refl}
use native.Mathlib.Omega.{arith}
use Rattle.numbers.proofs.NumberLaws.{above_zero}
use Rattle.names.proofs.SetLaws.{subset_refl}
use Rattle.asking.proofs.OneLaws.{one_none, walk_start, walk-name, walk_less, walk-within}
use Rattle.asking.proofs.OneSteps.{least-found, least_next, least-none}
use Rattle.asking.proofs.one.least_leaving.Goals as goal

pub loop-rest-init : goal.loop-rest-init
loop-rest-init c = (subset_refl _, λ ds kept. rw (walk_start _) (λ v o x i. one_none v o))

pub span-left-requires : goal.span-left-requires
span-left-requires c =
    let head = c.loop-rest in
    let name = walk-name _ _ head.invariant.0 (above_zero c.loop-rest-test.true) _ _ c.least_name-name.ensures refl in
    (c.requires, omega (arith, name.0))

pub returns-then-left : goal.returns-then-left
returns-then-left c =
    let head = c.loop-rest in
    let name = walk-name _ _ head.invariant.0 (above_zero c.loop-rest-test.true) _ _ c.least_name-name.ensures refl in
    record {
      among = name.1;
      least = λ ds kept.
          let ends = c.span-left.ensures ds kept in
          least-found ds kept _ _ head.invariant.0 (above_zero c.loop-rest-test.true) _ c.least_name-name.ensures _ _ ends.0 ends.1
          (head.invariant.1 ds kept) c.if-left.true;
    }

pub loop-rest-smaller : goal.loop-rest-smaller
loop-rest-smaller c =
    let head = c.loop-rest in
    walk_less _ _ head.invariant.0 (above_zero c.loop-rest-test.true) _ _ c.least_name-name.ensures c.minus-rest.ensures

pub loop-rest-preserved : goal.loop-rest-preserved
loop-rest-preserved c =
    let head = c.loop-rest in
    let some = above_zero c.loop-rest-test.true in (
      walk-within _ _ head.invariant.0 some _ _ c.least_name-name.ensures c.minus-rest.ensures,
      λ ds kept.
          let ends = c.span-left.ensures ds kept in
          least_next ds kept _ _ head.invariant.0 some _ c.least_name-name.ensures _ _ ends.0 ends.1 (head.invariant.1 ds kept) c.if-left.false _
          c.minus-rest.ensures,
    )

pub returns : goal.returns
returns c =
    let head = c.loop-rest in
    record { among = tt; least = λ ds kept. least-none ds kept _ _ head.invariant.0 c.loop-rest-test.false (head.invariant.1 ds kept) }
