-- `Search::last_name` meets its contract: the names are narrowed to those that alone do for every predicate left, and the least is taken; where one
-- is left, it is tried.
use mathlib.Core.Path.{sym, ap, ◌∙◌}
use native.Mathlib.Omega.{arith}
use Prim.Native.Nat.{ℕ}
use lib.ListN.{drop}
use Rattle.names.proofs.SetLaws.{union_left}
use Rattle.search.specs.code.Search.{pred_at, all_preds, narrowed}
use Rattle.search.proofs.SearchSteps.{narrowed-turn, narrowed-done, last_stop, last-least, last_some, last_one, narrow-above}
use Rattle.search.proofs.search.Search.last_name.Goals as goal

pub loop-j-init : goal.loop-j-init
loop-j-init c =
    let a = c.args in (
      omega arith,
      rw c.union-names.ensures (union_left a.set a.free),
      ap (λ (m : ℕ). narrowed a.self.now.limit a.set m (drop a.k (all_preds a.self.now.listed.now a.self.now.rows.now))) (sym c.union-names.ensures),
    )

pub returns-then-names-set : goal.returns-then-names-set
returns-then-names-set c =
    last_stop _ _ _ _ _ _ _ _ c.requires.1 c.requires.0 c.requires.2 c.loop-j.j _ c.loop-j.invariant.2 c.if-names-set.true

pub returns-then-at_most_one : goal.returns-then-at_most_one
returns-then-at_most_one c =
    last_one _ _ _ _ _ _ _ _ c.requires.1 c.requires.0 c.requires.2 c.loop-j.j _ _ _ c.loop-j.invariant.2 c.loop-j.invariant.1 c.if-names-set.false
    c.minus-rest.ensures (sym c.at_most_one.ensures ∙ c.if-at_most_one.true) c.union.ensures _ c.only_set.ensures

pub loop-j-preserved : goal.loop-j-preserved
unfolding pred_at
loop-j-preserved c = (
  omega arith,
  narrow-above _ (pred_at c.args.self.now.listed.now c.args.self.now.rows.now c.loop-j.j) _ _ c.narrow-names.ensures c.loop-j.invariant.1,
  c.loop-j.invariant.2 ∙ narrowed-turn _ _ _ _ c.loop-j.j _ _ _ c.loop-j-test.true c.requires.1 c.narrow-names.ensures,
)

pub returns-then-names-set-2 : goal.returns-then-names-set-2
returns-then-names-set-2 c =
    last_stop _ _ _ _ _ _ _ _ c.requires.1 c.requires.0 c.requires.2 c.loop-j.j _ c.loop-j.invariant.2 c.if-names-set-2.true

pub least_name-requires : goal.least_name-requires
least_name-requires c =
    let names = c.loop-j.invariant.2 ∙ narrowed-done _ _ _ _ c.loop-j.j _ _ c.loop-j-test.false in
    rw c.minus.ensures (last_some _ _ _ _ _ _ _ c.args.best c.requires.1 c.requires.0 c.requires.2 _ (union_left _ _) names c.if-names-set-2.false)

pub returns : goal.returns
returns c =
    let names = c.loop-j.invariant.2 ∙ narrowed-done _ _ _ _ c.loop-j.j _ _ c.loop-j-test.false in
    last-least _ _ _ _ _ _ _ _ c.requires.1 c.requires.0 c.requires.2 _ _ _ _ _ names c.if-names-set-2.false c.minus.ensures
    c.least_name.ensures c.union-2.ensures c.min.ensures
