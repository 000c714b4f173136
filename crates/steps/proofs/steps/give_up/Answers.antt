-- `steps::steps::give_up` meets its contract: row by row, what the test passes is given up (`gone-next`).
use Prim.Native.Nat.{ℕ, ◌+◌, ◌≤◌, ◌<◌}
use mathlib.Core.Path.{◌≡◌, refl, sym, ◌∙◌}
use mathlib.Core.Bool.{true, false}
use mathlib.Core.List.{List, append-nil}
use native.Mathlib.Omega.{arith}
use lib.ListN.{length, get_or, set, length-set}
use Rattle.std.proofs.Math.Seq.{take_all}
use Rattle.std.proofs.lemmas.List.{drop_all, get_or-set_other}
use Rattle.state.specs.declared.holding.Held.{Held}
use Rattle.steps.proofs.HeldLaws.{gone-next}
use Rattle.steps.proofs.steps.give_up.Goals as goal
use Rattle.steps.proofs.steps.give_up.Goals.{then-test, else-test}

-- the rows behind the one that was set are as they were
behind : (n : ℕ) (old now us : List Held) (x : Held) → ((i : ℕ) (d : Held) → n ≤ i → get_or now i d ≡ get_or old i d) → us ≡ set now n x
    → (i : ℕ) (d : Held) → n + 1 ≤ i → get_or us i d ≡ get_or old i d
behind n old now us x h e i d k = rw e (get_or-set_other now n i x d (λ z. omega (arith, z, k)) ∙ h i d (omega arith))

pub test-requires : goal.test-requires
test-requires g c =
    c.requires c.loop-row.row-index _ _ (omega (arith, c.loop-row.invariant.0)) (c.loop-row.invariant.1 c.loop-row.row-index _ (omega arith))

pub loop-row-init : goal.loop-row-init
loop-row-init g c = (refl, (λ i d k. refl), (λ t tells. refl))

pub loop-row-preserved : goal.loop-row-preserved
loop-row-preserved g c =
    let i = c.loop-row.row-index in
    let old = c.args.held.now in
    let now = c.loop-row.held in
    let same = c.loop-row.invariant.1 in
    let near : i < length old = omega (arith, c.loop-row.invariant.0) in
    elim c.if-test.branch [
      | then-test w ↦ (
        rw w.held-is (length-set now i _ ∙ c.loop-row.invariant.0),
        behind i old now _ _ same w.held-is,
        λ t tells. gone-next t old now _ i _ c.loop-row-test.true (c.loop-row.invariant.2 t tells) true
            (sym (tells i _ _ _ near (same i _ (omega arith)) c.test.ensures) ∙ w.if-test.true) w.held-is,
      )
      | else-test w ↦ (
        rw w.held-is (length-set now i _ ∙ c.loop-row.invariant.0),
        behind i old now _ _ same w.held-is,
        λ t tells. gone-next t old now _ i _ c.loop-row-test.true (c.loop-row.invariant.2 t tells) false
            (sym (tells i _ _ _ near (same i _ (omega arith)) c.test.ensures) ∙ w.if-test.false) w.held-is,
      )
    ]

pub returns : goal.returns
returns g c =
    λ t tells. c.loop-row.invariant.2 t tells
    ∙ rw (take_all c.loop-row.row-index c.args.held.now c.loop-row-test.false, drop_all c.loop-row.row-index c.args.held.now c.loop-row-test.false, append-nil)
