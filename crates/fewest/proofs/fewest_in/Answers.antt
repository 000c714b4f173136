-- `fewest::fewest_in` meets its contract: the first limit within which a set explains the state is the number of its names.
use Prim.Native.Nat.{◌+◌}
use mathlib.Core.Path.{◌≡◌, refl, ap, ◌∙◌}
use native.Mathlib.Nat.{le_refl}
use native.Mathlib.Omega.{arith}
use lib.ListN.{length}
use Rattle.names.specs.Sets.{no_set}
use Rattle.names.specs.code.Parts.{others}
use Rattle.state.specs.Layout.{head_of, held_count}
use Rattle.state.proofs.StateLaws.{entry_count_le}
use Rattle.search.specs.code.LeftEnds.{lefts_of, rights_of}
use Rattle.claims.specs.code.Keys.{keyed_state}
use Rattle.claims.proofs.ReadyLaws.{Prepared, prepared_in}
use Rattle.asking.proofs.MappedLaws.{fewest-keyed}
use Rattle.fewest.proofs.FailureSteps.{floor_keyed, floor_found, floor_next, floor_over}
use Rattle.fewest.proofs.fewest_in.Goals as goal
use Rattle.fewest.proofs.fewest_in.Goals.{After-get_ends, After-others-free}

pub get_ends-requires : goal.get_ends-requires
get_ends-requires c =
    (omega (arith, c.requires.count, entry_count_le _ c.args.s.sound), c.requires.room.2 ∙ c.requires.room.0)

-- what the calls before the loop leave
prepared : (c : After-get_ends) → Prepared (keyed_state c.args.s.bytes.now) c.args.n (c.args.n + held_count c.args.s.bytes.now) c.load.new.rows c.load.new.order
    (lefts_of c.get_ends.new.ends) (rights_of c.get_ends.new.ends)
prepared c =
    let room = c.requires.room in
    let count = room.0 in
    let places = room.2 ∙ room.0 in
    prepared_in _ c.args.s.sound _ _ c.requires.count refl _ _ _ (rw count at c.load.ensures.0) (rw count at c.load.ensures.1) (rw places at c.get_ends.ensures.ends_after)

free_is : (c : After-others-free) → c.others-free.result ≡ others (keyed_state c.args.s.bytes.now).head.own
unfolding keyed_state head_of
free_is c = c.others-free.ensures ∙ ap others c.own.ensures.value

pub loop-limit-init : goal.loop-limit-init
loop-limit-init c = (refl, c.requires.floor.0, floor_keyed _ c.args.s.sound _ c.requires.floor.1)

pub invariant_of-table : goal.invariant_of-table
invariant_of-table c =
    let same : length c.load.new.rows ≡ c.args.n + held_count c.args.s.bytes.now = c.load.ensures.2 ∙ c.requires.room.0 in
    record { ready = rw same (prepared (goal.at.invariant_of-table c).After-get_ends).ready }

pub least_within-requires : goal.least_within-requires
least_within-requires c =
    let ready = (prepared (goal.at.least_within-requires c).After-get_ends).ready in
    let same : length c.load.new.rows ≡ c.args.n + held_count c.args.s.bytes.now = c.load.ensures.2 ∙ c.requires.room.0 in
    omega (arith, ready.most, same, c.loop-limit.invariant.0)

pub returns-in-Some : goal.returns-in-Some
returns-in-Some c =
    let same : length c.load.new.rows ≡ c.args.n + held_count c.args.s.bytes.now = c.load.ensures.2 ∙ c.requires.room.0 in
    let found = rw c.in-Some.is at c.least_within.ensures.fact in
    floor_found (prepared (goal.at.returns-in-Some c).After-get_ends) (omega (arith, c.loop-limit-test.true)) (rw (same, free_is (goal.at.returns-in-Some c).After-others-free) at found.1) c.loop-limit.invariant.2
    found.0 _ refl
    ∙ fewest-keyed _ c.args.s.sound

pub loop-limit-preserved : goal.loop-limit-preserved
loop-limit-preserved c =
    let same : length c.load.new.rows ≡ c.args.n + held_count c.args.s.bytes.now = c.load.ensures.2 ∙ c.requires.room.0 in
    let none = rw c.in_default.is at c.least_within.ensures.fact in (
      c.least_within.ensures.listed_len_unchanged ∙ c.loop-limit.invariant.0,
      omega (arith, c.loop-limit-test.true),
      floor_next (prepared (goal.at.loop-limit-preserved c).After-get_ends) (omega (arith, c.loop-limit-test.true)) (rw (same, free_is (goal.at.loop-limit-preserved c).After-others-free) at none) c.loop-limit.invariant.2
          (le_refl no_set),
    )

pub returns : goal.returns
returns c =
    let done : c.loop-limit.limit ≡ 5 = omega (arith, c.loop-limit.invariant.1, c.loop-limit-test.false) in
    floor_over _ (rw done at c.loop-limit.invariant.2) ∙ fewest-keyed _ c.args.s.sound
