-- `claims::degrees::single_names` meets its contract: a term of one name adds that name.
use mathlib.Core.Path.{refl, sym, ◌∙◌}
use native.Mathlib.Omega.{arith}
use Rattle.predicates.specs.code.Marks.{singles}
use Rattle.claims.proofs.DegreeLaws.{single_more, single_other, singles_end}
use Rattle.claims.proofs.degrees.single_names.Goals as goal
use Rattle.claims.proofs.degrees.single_names.Goals.{else-is_single, then-is_single}

pub loop-i-init : goal.loop-i-init
unfolding singles
loop-i-init c = (omega arith, c.get32-count.ensures.0, refl)

pub loop-i-preserved : goal.loop-i-preserved
loop-i-preserved c =
    let head = c.loop-i in
    let term = c.get32-t.ensures.0 in (
      omega arith,
      head.invariant.1,
      elim c.if-is_single.branch [ then-is_single w ↦ w.names-is ∙ w.union-names.ensures ∙ single_more _ _ c.requires.0 head.i (omega arith) _ _ head.invariant.2 term (sym c.is_single.ensures ∙ w.if-is_single.true) | else-is_single w ↦ w.names-is ∙ single_other _ _ c.requires.0 head.i (omega arith) _ _ head.invariant.2 term (sym c.is_single.ensures ∙ w.if-is_single.false) ],
    )

pub returns : goal.returns
returns c =
    let head = c.loop-i in
    singles_end _ _ c.requires.0 head.i _ (omega arith) head.invariant.2
