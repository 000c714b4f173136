-- `asking::ask::mirror` meets its contract: each end is turned round, and no key is above the last one.
use Prim.Native.Nat.{ℕ, ◌-◌, ◌<◌}
use mathlib.Core.List.{List}
use mathlib.Core.Path.{◌≡◌, ap, ◌∙◌}
use native.Mathlib.Nat.{le_refl}
use native.Mathlib.Omega.{arith}
use lib.ListN.{length, get_or}
use lib.Seq.{get_or-set_other}
use Rattle.search.specs.declared.rows.Span.{Span}
use Rattle.search.proofs.EndSteps.{left_at, right_at}
use Rattle.claims.specs.code.Keys.{last_key}
use Rattle.claims.proofs.TableLaws.{filled-array, filled-next}
use Rattle.asking.specs.code.Mirror.{mirrored}
use Rattle.asking.proofs.ask.mirror.Goals as goal

-- a span turned round
turned : (ends : List Span) (i : ℕ) (v : Span) → v ≡ get_or ends i (record { left = 0; right = 0 })
    → record { left = last_key - v.right; right = last_key - v.left } ≡ mirrored ends i
turned ends i v e = rw (e, left_at ends i, right_at ends i)

pub overflow_sub-span : goal.overflow_sub-span
overflow_sub-span c =
    let i = c.loop-span.span-index in
    let same = ap (λ (e : Span). e.right) (c.loop-span.invariant.1 i (le_refl i)) in
    omega (arith, same, right_at c.args.ends.now i, (c.requires i c.loop-span-test.true).1)

pub overflow_sub-span-in-loop-span : goal.overflow_sub-span-in-loop-span
overflow_sub-span-in-loop-span c =
    let i = c.loop-span.span-index in
    let same = ap (λ (e : Span). e.left) (c.loop-span.invariant.1 i (le_refl i)) in
    omega (arith, same, left_at c.args.ends.now i, (c.requires i c.loop-span-test.true).0)

pub loop-span-preserved : goal.loop-span-preserved
loop-span-preserved c =
    let i = c.loop-span.span-index in
    let now = c.loop-span.ends in
    let ends = c.args.ends.now in
    let room : i < length now = omega arith in
    let same = c.loop-span.invariant.1 i (le_refl i) in (
      filled-next _ (mirrored ends) i _ now room (turned ends i _ same) c.loop-span.invariant.0,
      λ k h. get_or-set_other now i k _ _ (λ e. omega arith) ∙ c.loop-span.invariant.1 k (omega arith),
    )

pub returns : goal.returns
returns c = filled-array _ _ _ _ c.loop-span.auto.ends (λ k h. c.loop-span.invariant.0 k (omega arith))
