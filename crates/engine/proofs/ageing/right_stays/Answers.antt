-- `engine::ageing::right_stays` meets its contract: the ends that are read are those of datum i, and a whole microsecond is left for the millionths.
use mathlib.Core.Path.{sym, ◌∙◌}
use native.Mathlib.Omega.{arith}
use borrow.Author.Tests.{lt-ltb}
use Rattle.state.proofs.StateLaws.{held_count_le}
use Rattle.state.specs.Model.{end_limit}
use Rattle.state.specs.Layout.{datum_at}
use Rattle.engine.proofs.WidenLaws.{HeldFacts, held_at_lem, EndsHeld, ends_held}
use Rattle.engine.proofs.ageing.right_stays.Goals as goal
use Rattle.engine.proofs.ageing.right_stays.Goals.{After-get}

there : (c : After-get) → EndsHeld (datum_at c.args.s.bytes.now c.args.i) c.get.result
there c = ends_held c.args.s.bytes.now c.args.s.sound c.args.i c.requires.0 c.get.result c.get.ensures

pub get-requires : goal.get-requires
get-requires c = (c.args.s.long, omega (arith, c.requires.0, held_count_le _ c.args.s.sound))

-- and what the state's form says of it
below : (c : After-get) → HeldFacts (datum_at c.args.s.bytes.now c.args.i)
below c = held_at_lem c.args.s.bytes.now c.args.s.sound c.args.i c.requires.0

pub overflow_add-right : goal.overflow_add-right
overflow_add-right c =
    let start = (goal.at.overflow_add-right c).After-get in
    omega (arith, (there start).right_is, (below start).below, c.requires.2)

pub returns-then-right-hi : goal.returns-then-right-hi
returns-then-right-hi c =
    let held = there (goal.at.returns-then-right-hi c).After-get in
    sym (lt-ltb _ end_limit (omega (arith, held.right_is, held.split.1, c.requires.1, c.if-right-hi.true)))

pub plus-requires : goal.plus-requires
plus-requires c =
    let held = there (goal.at.plus-requires c).After-get in
    (held.split.1, c.requires.1, omega (arith, held.right_is, (below (goal.at.plus-requires c).After-get).below, c.requires.2))

pub returns : goal.returns
returns c = c.storable.ensures ∙ rw (c.plus.ensures.0, (there (goal.at.returns c).After-get).right_is)
