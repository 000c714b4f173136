-- `asking::one::widest` meets its contract: the empty set stands for the names that no mask has, and the others are taken one after the other.
use mathlib.Core.Path.{ap, ◌∙◌}
use mathlib.Core.Bool.{true, false}
use Prim.Native.Nat.{◌<◌}
use native.Mathlib.Omega.{arith}
use lib.ListN.{length}
use Rattle.names.proofs.SetLaws.{ones-empty, subset_trans}
use Rattle.names.proofs.PartLaws.{shared-left}
use Rattle.asking.specs.code.One.{all_names, Lacking}
use Rattle.asking.proofs.OneSteps.{mask_count, begun-none, begun-empty, names-all}
use Rattle.asking.proofs.one.widest.Goals as goal
use Rattle.asking.proofs.one.widest.Goals.{else-plain-minus, then-plain-minus}

pub span-requires : goal.span-requires
span-requires c =
    (c.requires.0, omega (arith, ones-empty))

pub returns : goal.returns
returns c =
    λ ds kept lacks.
    let some = c.all_names-some.ensures ∙ ap (all_names 0) kept.masks_are in
    let many : 0 < length ds = omega (arith, c.requires.1, mask_count ds kept) in
    let less : Lacking ds c.shared.result = λ v o. lacks v (o.0, subset_trans _ _ _ o.1 (rw c.shared.ensures (shared-left _ _))) in
    elim c.if-plain-minus.branch [
      | then-plain-minus w ↦ names-all ds kept _ _ some c.args.plain true _ _ _ c.minus.ensures w.if-plain-minus.true
          (rw c.shared.ensures at (c.over_names.ensures ds kept less true
          (rw w.begun-is (begun-empty ds kept many _ _ (w.span.ensures ds kept).0 (w.span.ensures ds kept).1 _ _ w.widened-begun.ensures.0 w.widened-begun.ensures.1))))
      | else-plain-minus w ↦ names-all ds kept _ _ some c.args.plain false _ _ _ c.minus.ensures w.if-plain-minus.false
          (rw c.shared.ensures at (c.over_names.ensures ds kept less false (rw w.begun-is (begun-none ds kept))))
    ]
