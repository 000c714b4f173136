-- `state::intervals::ordered` meets its contract: the whole microseconds tell (`ordered_soon`), or both numbers do (`ordered-both`).
use native.Mathlib.Omega.{arith}
use Rattle.state.proofs.FormLaws.{ordered_soon, ordered-both}
use Rattle.state.proofs.intervals.ordered.Goals as goal

pub returns-then-e : goal.returns-then-e
returns-then-e c = ordered_soon c.args.e (omega arith, omega arith) c.if-e.true

pub returns : goal.returns
returns c =
    ordered-both c.args.e (omega arith, omega arith) _ _ c.precedes.ensures c.storable.ensures
