-- `asking::one::fewest_one` meets its contract: the least of the names that decide which leaves an instant works alone, and no lesser one does.
use Prim.Native.Nat.{ℕ, ◌≤◌, ◌<◌}
use native.Mathlib.Omega.{arith}
use lib.Dec.{T}
use lib.Seq.{length-take-le}
use Rattle.std.proofs.Common.{Option, None, Some, IfSome}
use Rattle.names.specs.Sets.{no_set, subset}
use Rattle.names.proofs.SetLaws.{subset_le}
use Rattle.asking.proofs.OneSteps.{masks-read, kept_in, one-least, one-never, decided-below}
use Rattle.asking.proofs.one.fewest_one.Goals as goal

pub returns-then-names-eq0-clause-fact : goal.returns-then-names-eq0-clause-fact
returns-then-names-eq0-clause-fact c =
    one-never _ c.args.s.sound _ _ c.known-n.ensures.value c.deciding_names-names.ensures c.if-names-eq0.true

pub returns-clause-fact : goal.returns-clause-fact
returns-clause-fact c =
    let form = c.args.s.sound in
    let n-is = c.known-n.ensures.value in
    let h-is = c.held-h.ensures.value in
    let few : c.held-h.result ≤ 16 = c.held-h.ensures.in_range form in
    let masks = masks-read _ form _ _ _ n-is h-is (rw length-take-le at c.get_singles.ensures) in
    one-least _ form _ _ n-is c.deciding_names-names.ensures _
    (c.least_leaving.ensures.least _ (kept_in _ form _ _ _ h-is (rw length-take-le at c.get_ends.ensures.ends_after) masks))

-- one of the names is a set
among : (names : ℕ) → names < no_set → (o : Option ℕ) → IfSome o (λ name. T (subset name names)) → IfSome o (λ name. name < no_set)
among names below None h = tt
among names below (Some name) h = omega (arith, subset_le name names h)

pub returns-clause-some : goal.returns-clause-some
returns-clause-some c =
    among _ (decided-below _ c.args.s.sound _ _ c.known-n.ensures.value c.deciding_names-names.ensures) _ c.least_leaving.ensures.among
