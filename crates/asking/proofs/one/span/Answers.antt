-- `asking::one::span` meets its contract: one datum after the other is taken in, if its predicate is left false.
use Prim.Native.Nat.{◌<◌, min, max}
use mathlib.Core.Path.{refl, sym, ap, ◌∙◌}
use lib.ListN.{length}
use native.Mathlib.Omega.{arith}
use Rattle.search.proofs.EndSteps.{left_at, right_at}
use Rattle.asking.proofs.OneSteps.{span-take, span_pass, span-done}
use Rattle.asking.proofs.one.span.Goals as goal
use Rattle.asking.proofs.one.span.Goals.{then-shared-eq0, else-shared-eq0}

pub loop-i-init : goal.loop-i-init
loop-i-init c = λ ds kept. (refl, refl)

pub loop-i-preserved : goal.loop-i-preserved
loop-i-preserved c =
    let i = c.loop-i.i in
    let in-row : i < length c.args.masks.now = omega (arith, c.requires.0) in
    let left = left_at c.args.ends.now i in
    let right = right_at c.args.ends.now i in
    λ ds kept.
    let before = c.loop-i.invariant ds kept in
    elim c.if-shared-eq0.branch [
      | then-shared-eq0 w ↦
          rw (w.left-is, w.right-is)
          (span-take ds kept _ c.requires.1 i in-row _ _ _ c.shared.ensures before w.if-shared-eq0.true _ _
          (w.max-left.ensures ∙ ap (max c.loop-i.left) (sym left)) (w.min-right.ensures ∙ ap (min c.loop-i.right) (sym right)))
      | else-shared-eq0 w ↦
          rw (w.left-is, w.right-is) (span_pass ds kept _ c.requires.1 i in-row _ _ _ c.shared.ensures before w.if-shared-eq0.false)
    ]

pub returns : goal.returns
returns c =
    let head = c.loop-i in
    λ ds kept. span-done ds kept _ c.requires.1 head.i _ _ (omega (arith, c.requires.0)) (head.invariant ds kept)
