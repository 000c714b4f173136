-- `engine::ageing::widen` meets its contract: datum after datum is stored, of which only the ends are new (`widen_next`).
use Prim.Native.Nat.{ℕ, ◌+◌, ◌<◌}
use mathlib.Core.Path.{◌≡◌, refl, ap, ◌∙◌}
use native.Mathlib.Omega.{arith}
use Rattle.numbers.specs.Numbers.{put, tab, Bytes}
use Rattle.ends.specs.Ends.{count_of}
use Rattle.state.specs.Layout.{joined, datum_at, held_count}
use Rattle.engine.proofs.WidenLaws.{held_at_lem, HeldFacts, EndsHeld, ends_there, widen_next, held-tab}
use borrow.Author.Rules.{rules}
use Rattle.engine.proofs.ageing.widen.Goals as goal
use Rattle.engine.proofs.ageing.widen.Goals.{After-get-ends}

pub loop-i-init : goal.loop-i-init
unfolding joined tab put
loop-i-init c = (refl, refl)

-- datum i is held, and the ends that are read are its
inside : (c : After-get-ends) → c.loop-i.i < held_count c.args.s.now
inside c = omega (arith, c.held-i-end.ensures.value)

fits : (c : After-get-ends) → HeldFacts (datum_at c.args.s.now c.loop-i.i)
fits c = held_at_lem c.args.s.now c.requires.1 c.loop-i.i (inside c)

there : (c : After-get-ends) → EndsHeld (datum_at c.args.s.now c.loop-i.i) c.get-ends.result
there c =
    ends_there c.args.s.now c.requires.1 (count_of c.args.lo) (count_of c.args.hi) c.loop-i.i c.loop-i.s (inside c) c.loop-i.invariant.1 c.get-ends.result c.get-ends.ensures

pub plus-requires : goal.plus-requires
plus-requires c =
    let held = there (goal.at.plus-requires c).After-get-ends in
    let w = fits (goal.at.plus-requires c).After-get-ends in
    (held.split.0, c.requires.2, omega (arith, held.left_is, w.ordered, w.below, c.requires.4))

pub plus-requires-in-loop-i : goal.plus-requires-in-loop-i
plus-requires-in-loop-i c =
    let held = there (goal.at.plus-requires-in-loop-i c).After-get-ends in
    let w = fits (goal.at.plus-requires-in-loop-i c).After-get-ends in
    (held.split.1, c.requires.3, omega (arith, held.right_is, w.below, c.requires.5))

pub loop-i-preserved : goal.loop-i-preserved
unfolding Bytes
loop-i-preserved c =
    let held = there (goal.at.loop-i-preserved c).After-get-ends in (
      omega arith,
      widen_next c.args.s.now c.requires.1 (count_of c.args.lo) (count_of c.args.hi) (search rules) c.requires.0 c.loop-i.i _ _ _
          (inside (goal.at.loop-i-preserved c).After-get-ends) c.loop-i.invariant.1 (c.plus.ensures.1, c.plus-in-loop-i.ensures.1)
          (c.plus.ensures.0 ∙ ap (λ (x : ℕ). x + count_of c.args.lo) held.left_is)
          (c.plus-in-loop-i.ensures.0 ∙ ap (λ (x : ℕ). x + count_of c.args.hi) held.right_is) c.put.ensures,
    )

pub returns : goal.returns
returns c =
    let head = c.loop-i in
    let a = c.args in
    let done : head.i ≡ held_count a.s.now = omega (arith, c.held-i-end.ensures.value) in
    rw (held-tab (count_of a.lo) (count_of a.hi) a.s.now, ← done) head.invariant.1
