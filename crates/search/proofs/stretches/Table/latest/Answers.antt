-- `Table::latest` meets its contract: the latest so far is kept.
use mathlib.Core.Path.{sym, ◌∙◌}
use mathlib.Core.Logic.{inl, inr}
use native.Mathlib.Omega.{arith}
use Rattle.predicates.proofs.ListLaws.{true_T}
use Rattle.search.proofs.EndSteps.{left_at, latest-took, latest-passed}
use Rattle.search.proofs.stretches.Table.latest.Goals as goal
use Rattle.search.proofs.stretches.Table.latest.Goals.{then-last-end+then-not-holds, then-last-end+else-not-holds, else-last-end}

pub loop-i-preserved : goal.loop-i-preserved
loop-i-preserved c =
    let head = c.loop-i in
    let at = sym (left_at c.args.self.now.ends.now head.i) in (
      omega arith,
      elim c.if-last-end.branch [
        | then-last-end+then-not-holds w ↦
            rw w.last-is
            (latest-took _ _ _ _ _ _ head.auto.i head.invariant.1 _ at w.if-last-end.true (rw (sym w.holds.ensures ∙ w.if-not-holds.true) tt))
        | then-last-end+else-not-holds w ↦
            rw w.last-is
            (latest-passed _ _ _ _ _ _ head.auto.i head.invariant.1 _ at (inr (true_T _ (sym w.holds.ensures ∙ w.if-not-holds.false))))
        | else-last-end w ↦ rw w.last-is (latest-passed _ _ _ _ _ _ head.auto.i head.invariant.1 _ at (inl w.if-last-end.false))
      ],
    )
