-- `asking::ask::ask_in` meets its contract: the rows are the claims of the state, and the search over all of them tells whether every instant counts.
use native.Mathlib.Omega.{arith}
use mathlib.Core.Path.{◌≡◌, ap, ◌∙◌}
use lib.ListN.{length}
use Rattle.names.specs.code.Parts.{others}
use Rattle.state.proofs.StateLaws.{entry_count_le}
use Rattle.asking.proofs.ArrayLaws.{order-rows}
use Rattle.asking.proofs.AskSteps.{asked_open, asked_tied}
use Rattle.asking.proofs.ask.ask_in.Goals as goal

pub invariant_of-search : goal.invariant_of-search
invariant_of-search c =
    let load = c.load.ensures in
    let long : length c.load.new.order ≡ length c.args.rows.now = load.3 ∙ c.requires.room.1 in
    record { fit = rw long (order-rows _ _ _ _ _ load.0 load.1) }

pub returns-then-predicate_step-lt-NO_SET : goal.returns-then-predicate_step-lt-NO_SET
returns-then-predicate_step-lt-NO_SET c =
    let load = c.load.ensures in
    let long : length c.load.new.order ≡ length c.args.rows.now = load.3 ∙ c.requires.room.1 in
    let free-is = c.others-free.ensures ∙ ap others c.own.ensures.value in
    asked_open c.args.s.bytes.now c.args.s.sound _ _ _ _ load.0 load.1 c.args.limit _ _ free-is (rw long at c.predicate_step.ensures)
    c.if-predicate_step-lt-NO_SET.true

pub between-requires-clause-fact_2 : goal.between-requires-clause-fact_2
between-requires-clause-fact_2 c =
    let load = c.load.ensures in
    let long : length c.load.new.order ≡ length c.args.rows.now = load.3 ∙ c.requires.room.1 in
    let free-is = c.others-free.ensures ∙ ap others c.own.ensures.value in
    asked_tied c.args.s.bytes.now c.args.s.sound _ _ _ _ load.0 load.1 c.args.limit _ _ free-is (rw long at c.predicate_step.ensures)
    c.if-predicate_step-lt-NO_SET.false

pub between-requires-clause-room : goal.between-requires-clause-room
between-requires-clause-room c =
    omega (arith, c.requires.count, entry_count_le c.args.s.bytes.now c.args.s.sound)
