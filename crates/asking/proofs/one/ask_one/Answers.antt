-- `asking::one::ask_one` meets its contract: each case of the names that decide, and of the ends that they leave, is a law of `OneSteps`.
use Prim.Native.Nat.{◌≤◌}
use mathlib.Core.Path.{refl, ◌∙◌}
use lib.Seq.{length-take-le}
use Rattle.asking.proofs.OneSteps.{masks-read, one_undecided, one_open, one_hull, one_apart, one-low, one-between}
use Rattle.asking.proofs.one.ask_one.Goals as goal

pub returns-then-names-eq0 : goal.returns-then-names-eq0
returns-then-names-eq0 c =
    one_undecided _ c.args.s.sound _ _ c.known-n.ensures.value c.deciding_names-names.ensures c.if-names-eq0.true

pub returns-then-common_names-ne0 : goal.returns-then-common_names-ne0
returns-then-common_names-ne0 c =
    let form = c.args.s.sound in
    let n-is = c.known-n.ensures.value in
    let h-is = c.held-h.ensures.value in
    let few : c.held-h.result ≤ 16 = c.held-h.ensures.in_range form in
    let masks = masks-read _ form _ _ _ n-is h-is (rw length-take-le at c.get_singles.ensures) in
    one_open _ form _ _ n-is c.deciding_names-names.ensures _ masks _ c.common_names.ensures c.if-common_names-ne0.true

pub returns-then-ends : goal.returns-then-ends
returns-then-ends c =
    let form = c.args.s.sound in
    let n-is = c.known-n.ensures.value in
    let h-is = c.held-h.ensures.value in
    let few : c.held-h.result ≤ 16 = c.held-h.ensures.in_range form in
    let names-are = c.deciding_names-names.ensures in
    let masks = masks-read _ form _ _ _ n-is h-is (rw length-take-le at c.get_singles.ensures) in
    let hull = one_hull _ form _ _ n-is names-are _ masks _ c.common_names.ensures c.if-common_names-ne0.false _ _ h-is
    (rw length-take-le at c.get_ends-scale.ensures.ends_after) _ _ c.widest-ends.ensures in
    one_apart _ form _ _ n-is names-are _ refl _ _ hull c.if-ends.true

pub rounded-requires : goal.rounded-requires
rounded-requires c =
    let form = c.args.s.sound in
    let n-is = c.known-n.ensures.value in
    let h-is = c.held-h.ensures.value in
    let few : c.held-h.result ≤ 16 = c.held-h.ensures.in_range form in
    let names-are = c.deciding_names-names.ensures in
    let masks = masks-read _ form _ _ _ n-is h-is (rw length-take-le at c.get_singles.ensures) in
    let hull = one_hull _ form _ _ n-is names-are _ masks _ c.common_names.ensures c.if-common_names-ne0.false _ _ h-is
    (rw length-take-le at c.get_ends-scale.ensures.ends_after) _ _ c.widest-ends.ensures in
    one-low _ form _ _ n-is names-are _ refl _ _ hull _ c.get_ends-scale.ensures.value c.if-ends.false

pub returns : goal.returns
returns c =
    let form = c.args.s.sound in
    let n-is = c.known-n.ensures.value in
    let h-is = c.held-h.ensures.value in
    let few : c.held-h.result ≤ 16 = c.held-h.ensures.in_range form in
    let names-are = c.deciding_names-names.ensures in
    let masks = masks-read _ form _ _ _ n-is h-is (rw length-take-le at c.get_singles.ensures) in
    let hull = one_hull _ form _ _ n-is names-are _ masks _ c.common_names.ensures c.if-common_names-ne0.false _ _ h-is
    (rw length-take-le at c.get_ends-scale.ensures.ends_after) _ _ c.widest-ends.ensures in
    c.rounded.ensures ∙ one-between _ form _ _ n-is names-are _ refl _ _ hull _ c.get_ends-scale.ensures.value c.if-ends.false
