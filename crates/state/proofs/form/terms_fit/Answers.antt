-- `state::form::terms_fit` meets its contract: from the last term on the loop stops at the first that is not below the one behind it or lies in one
-- of those. The turns are `TermLaws`.
use mathlib.Core.Path.{◌≡◌, refl, sym, ap, ◌∙◌}
use Prim.Native.Nat.{◌+◌, ◌-◌}
use mathlib.Core.Bool.{Bool, ◌&&◌, not}
use native.Mathlib.Omega.{arith}
use lib.Dec.{ltb}
use Rattle.state.proofs.TermLaws.{tested_none, tested_high, tested_inside, apart_none, contained-none, tested_next, tested_done}
use Rattle.state.proofs.form.terms_fit.Goals as goal
use Rattle.state.proofs.form.terms_fit.Goals.{else-subset-via-else-subset, else-subset-via-then-subset+else-contained}

pub loop-i-init : goal.loop-i-init
loop-i-init c = tested_none _ _

pub returns-then-next-t : goal.returns-then-next-t
returns-then-next-t c =
    let head = c.loop-i in
    sym (tested_high _ _ _ _ _ head.invariant c.loop-i-test.true _ refl c.if-next-t.true)

pub returns-then-contained : goal.returns-then-contained
returns-then-contained c =
    let head = c.loop-i in
    let back : head.i - 1 + 1 ≡ head.i = omega arith in
    sym (tested_inside _ _ _ _ _ head.invariant c.loop-i-test.true _ refl _ (rw back at c.contained.ensures) c.if-contained.true)

pub loop-i-preserved : goal.loop-i-preserved
loop-i-preserved c =
    let head = c.loop-i in
    let back : head.i - 1 + 1 ≡ head.i = omega arith in
    rw c.union-all.ensures (tested_next _ _ _ _ _ head.invariant c.loop-i-test.true _ refl c.if-next-t.false
    (elim c.else-subset.branch [ else-subset-via-then-subset+else-contained w ↦ contained-none _ _ _ _ _ head.invariant c.loop-i-test.true _ refl _ (rw back at w.contained.ensures) w.if-contained.false | else-subset-via-else-subset w ↦ apart_none _ _ _ _ _ head.invariant c.loop-i-test.true _ refl (sym c.subset.ensures ∙ w.if-subset.false) ]))

pub returns : goal.returns
returns c =
    let head = c.loop-i in
    ap (λ (b : Bool). ltb 0 head.next && not b) c.has.ensures ∙ tested_done _ _ _ _ _ head.invariant c.loop-i-test.false
