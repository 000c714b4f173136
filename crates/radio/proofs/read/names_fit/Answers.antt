-- `radio::read::names_fit` meets its contract: a name that does not follow those before it decides. The mathematics is `names_from_lem` and
-- `names_next` of `proofs.NameLaws`.
use Rattle.std.proofs.Common.{◌≡◌, ◌+◌, ◌&&◌, ltb, get_or, drop, sym, ◌∙◌, drop_of_length-le}
use Rattle.names.specs.Sets.{set_union}
use Rattle.epochs.specs.Epochs.{name_limit}
use Rattle.radio.specs.Names.{names_fit}
use Rattle.radio.specs.code.Walk.{names_from}
use Rattle.radio.proofs.NameLaws.{names_from_lem, names_next}
use Rattle.radio.proofs.read.names_fit.Goals as goal
use Rattle.radio.proofs.read.names_fit.Goals.{After-single-bit}

pub loop-name-init : goal.loop-name-init
loop-name-init c = names_from_lem c.args.mask c.args.names.now

-- the test of this name, and of those behind it
turn : (c : After-single-bit) → let a = c.args in
    let at = c.loop-name in
    names_fit a.mask a.names.now ≡ (ltb (get_or a.names.now at.name-index 0) name_limit && ltb at.seen c.single-bit.result
    && names_from a.mask (set_union at.seen c.single-bit.result) (drop (at.name-index + 1) a.names.now))
turn c =
    let at = c.loop-name in
    sym at.invariant ∙ rw c.single-bit.ensures (names_next c.args.mask c.args.names.now at.name-index at.seen c.loop-name-test.true)

pub returns-then-not-name-seen : goal.returns-then-not-name-seen
returns-then-not-name-seen c = sym (turn (goal.at.returns-then-not-name-seen c).After-single-bit ∙ rw c.if-not-name-seen.true)

pub loop-name-preserved : goal.loop-name-preserved
loop-name-preserved c =
    rw c.union-seen.ensures (sym (turn (goal.at.loop-name-preserved c).After-single-bit ∙ rw c.if-not-name-seen.false))

pub returns : goal.returns
unfolding names_from
returns c = rw (drop_of_length-le c.args.names.now {i = c.loop-name.name-index} c.loop-name-test.false) at c.loop-name.invariant
