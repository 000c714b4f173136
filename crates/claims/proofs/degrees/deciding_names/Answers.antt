-- `claims::degrees::deciding_names` meets its contract: where no name is left, none comes back.
use Prim.Native.Nat.{◌+◌}
use mathlib.Core.Path.{◌≡◌, sym, ap, ◌∙◌}
use native.Mathlib.Omega.{arith}
use Rattle.numbers.specs.Numbers.{num}
use Rattle.names.specs.code.Parts.{shared, others}
use Rattle.state.specs.Layout.{own_at, store_of}
use Rattle.state.proofs.StateLaws.{own-fits}
use Rattle.claims.specs.code.Degrees.{deciding}
use Rattle.claims.proofs.DegreeLaws.{deciding-more, deciding-none, claim_placed, claim_few, claim_singles}
use Rattle.claims.proofs.degrees.deciding_names.Goals as goal

pub others-names-requires : goal.others-names-requires
others-names-requires c = omega (arith, c.get32.ensures.0, own-fits _ c.args.s.sound)

pub loop-i-init : goal.loop-i-init
unfolding deciding
loop-i-init c = (omega arith, c.others-names.ensures ∙ ap others c.get32.ensures.0)

pub place-requires : goal.place-requires
place-requires c =
    claim_placed _ c.args.s.sound _ c.requires c.loop-i.i (omega arith)

pub single_names-requires : goal.single_names-requires
single_names-requires c =
    (claim_few _ c.args.s.sound _ c.requires c.loop-i.i (omega arith) _ c.place.ensures.0, omega arith)

pub returns-then-names-eq0 : goal.returns-then-names-eq0
returns-then-names-eq0 c =
    let head = c.loop-i in
    let told =
    c.shared-names.ensures
    ∙ ap (shared head.names) (claim_singles _ c.args.s.sound _ c.requires head.i (omega arith) _ c.place.ensures.0 _ c.single_names.ensures) in
    let more = deciding-more (store_of c.args.s.bytes.now) (num own_at 4 c.args.s.bytes.now) head.i _ (rw head.invariant.1 at told) in
    sym (deciding-none (store_of c.args.s.bytes.now) (num own_at 4 c.args.s.bytes.now) c.args.n (head.i + 1) (omega arith) (sym more ∙ c.if-names-eq0.true))

pub loop-i-preserved : goal.loop-i-preserved
loop-i-preserved c =
    let head = c.loop-i in
    let told =
    c.shared-names.ensures
    ∙ ap (shared head.names) (claim_singles _ c.args.s.sound _ c.requires head.i (omega arith) _ c.place.ensures.0 _ c.single_names.ensures) in
    let more = deciding-more (store_of c.args.s.bytes.now) (num own_at 4 c.args.s.bytes.now) head.i _ (rw head.invariant.1 at told) in
    (omega arith, more)

pub returns : goal.returns
returns c =
    let head = c.loop-i in
    let last : head.i ≡ c.args.n = omega arith in
    rw last at head.invariant.1
