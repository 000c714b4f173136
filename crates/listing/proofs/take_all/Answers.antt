-- The run is that of the definition before a turn and behind it. The mathematics is `passed_none` and `passed_turn` of `proofs.ByteLaws`, and `run_less`
-- of `proofs.RunLaws`.
use Rattle.std.proofs.Common.{◌+◌, ◌<◌, sym, ◌∙◌, arith, length-take}
use Rattle.predicates.proofs.ListLaws.{true_T}
use Rattle.listing.specs.System.{moved_by}
use Rattle.listing.specs.Run.{read_most}
use Rattle.listing.specs.code.Turns.{piece_most}
use Rattle.listing.proofs.RunLaws.{none-tells, none_read, went_most, goes_below, goes_written, run_less, run_stopped}
use Rattle.listing.proofs.ByteLaws.{passed_none, passed_turn, passed_went}
use Rattle.listing.proofs.take_all.Goals as goal

pub loop-progress-init : goal.loop-progress-init
loop-progress-init g c =
    let none = c.new-2.ensures in
    let tells = none-tells _ none in
    record { bounded = none_read _ none; passed = passed_none _ _ _ _ c.new.ensures none; tells = tells.0; whole = tells.1 }

pub turn-requires-clause-goes : goal.turn-requires-clause-goes
turn-requires-clause-goes g c =
    let tally = c.loop-progress.progress.tally in
    let on = true_T _ (sym c.is_going.ensures ∙ c.loop-progress-test.true) in
    (goes_below tally on, went_most (passed_went c.loop-progress.invariant.passed), goes_written tally on c.loop-progress.invariant.tells.within)

pub loop-progress-smaller : goal.loop-progress-smaller
loop-progress-smaller g c =
    let turn = c.turn.ensures.turned.0 in
    run_less c.loop-progress.progress.tally c.turn.new.self.tally (omega (arith, turn.read, turn.came)) (sym c.is_going.ensures ∙ c.loop-progress-test.true)

pub loop-progress-preserved : goal.loop-progress-preserved
loop-progress-preserved g c =
    let turn = c.turn.ensures.turned.0 in
    let short = length-take (moved_by c.turn.new.self.tally.input.got) c.turn.new.input in
    let on = true_T _ (sym c.is_going.ensures ∙ c.loop-progress-test.true) in
    let more = goes_below c.loop-progress.progress.tally on in
    let even = goes_written c.loop-progress.progress.tally on c.loop-progress.invariant.tells.within in
    let bound : c.turn.new.self.tally.read < read_most + piece_most = omega (arith, short, turn.read, more) in
    record {
      bounded = bound;
      passed = passed_turn _ _ _ _ _ _ _ _ _ _ _ c.loop-progress.invariant.passed even turn (omega arith) c.turn.ensures.heard c.turn.ensures.told.0
          c.turn.ensures.told.1;
      tells = turn.tells;
      whole = turn.whole;
    }

pub returns-clause-bounded : goal.returns-clause-bounded
returns-clause-bounded g c = c.loop-progress.invariant.bounded

pub returns-clause-went : goal.returns-clause-went
returns-clause-went g c = passed_went c.loop-progress.invariant.passed

pub returns-clause-calls_tell : goal.returns-clause-calls_tell
returns-clause-calls_tell g c = (c.loop-progress.invariant.tells, c.loop-progress.invariant.whole)

pub returns-clause-stopped : goal.returns-clause-stopped
returns-clause-stopped g c = run_stopped c.loop-progress.progress.tally (sym c.is_going.ensures ∙ c.loop-progress-test.false)

pub returns-clause-bytes : goal.returns-clause-bytes
returns-clause-bytes g c = c.loop-progress.invariant.passed
