-- `entries::tables::Standing::explained` meets its contract: p's mark is made, no row implies p where no mark lets one (`rows_apart`), and else the loop
-- stops at the first row that does.
use mathlib.Core.Path.{◌≡◌, refl, sym, subst, ◌∙◌}
use mathlib.Core.List.{◌++◌}
use native.Mathlib.Omega.{arith}
use lib.Seq.{length-take-le}
use Rattle.std.proofs.lemmas.List.{get_or-take}
use Rattle.predicates.specs.code.Marks.{Apart}
use Rattle.state.specs.code.Tables.{entry_masks}
use Rattle.entries.specs.code.Marks.{any_below}
use Rattle.entries.proofs.TableLaws.{any_below_next, any_below-none, any_below-here, rows_apart, explained-rows}
use Rattle.entries.proofs.tables.Standing.explained.Goals as goal

-- there are no rows
pub returns-then-self-eq0 : goal.returns-then-self-eq0
unfolding any_below
returns-then-self-eq0 c =
    let e = c.args.self.now in
    sym (explained-rows e.n e.counts.now (entry_masks e.first e.state.now ++ e.masks.now) c.args.p.now ∙ rw c.if-self-eq0.true)

pub returns-then-all_apart : goal.returns-then-all_apart
returns-then-all_apart c =
    let e = c.args.self.now in
    let whole = entry_masks e.first e.state.now ++ e.masks.now in
    let near = length-take-le e.n e.marks.now e.marked.reach in
    let apart = c.all_apart.ensures c.if-all_apart.true in
    sym (explained-rows e.n e.counts.now whole c.args.p.now
    ∙ any_below-none e.n _ (rows_apart e.n e.counts.now whole e.marks.now c.args.p.now _ e.marked c.mark_of-bound.ensures
    (λ i h. subst (λ v. Apart v c.mark_of-bound.result) (get_or-take e.n e.marks.now i 0 h) (apart i (omega (arith, near, h))))))

pub loop-i-init : goal.loop-i-init
unfolding any_below
loop-i-init c = refl

pub returns-then-row_implies : goal.returns-then-row_implies
returns-then-row_implies c =
    let e = c.args.self.now in
    sym (explained-rows e.n e.counts.now (entry_masks e.first e.state.now ++ e.masks.now) c.args.p.now
    ∙ any_below-here e.n c.loop-i.i _ c.loop-i-test.true (sym c.row_implies.ensures ∙ c.if-row_implies.true))

pub loop-i-preserved : goal.loop-i-preserved
loop-i-preserved c = any_below_next c.loop-i.i _ c.loop-i.invariant (sym c.row_implies.ensures ∙ c.if-row_implies.false)

pub returns : goal.returns
returns c =
    let e = c.args.self.now in
    let done : c.loop-i.i ≡ e.n = omega arith in
    sym (explained-rows e.n e.counts.now (entry_masks e.first e.state.now ++ e.masks.now) c.args.p.now ∙ rw done at c.loop-i.invariant)
