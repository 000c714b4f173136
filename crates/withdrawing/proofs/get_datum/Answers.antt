-- `withdrawing::get_datum` meets its contract: the datum's row is read, which is true where its first mask is empty (`seen_gone`); else it stays
-- (`seen_stays`).
use native.Mathlib.Omega.{arith}
use Rattle.state.proofs.FormLaws.{datum-row, ends_split}
use Rattle.withdrawing.proofs.WithdrawnLaws.{seen_gone, seen_stays}
use Rattle.withdrawing.proofs.get_datum.Goals as goal

pub get_seen-count-requires : goal.get_seen-count-requires
get_seen-count-requires c = record { in_bounds = (omega arith, omega arith); t = datum-row _ c.args.s.now c.args.i c.requires.2 }

pub returns-then-terms-eq0 : goal.returns-then-terms-eq0
returns-then-terms-eq0 c = seen_gone c.args.risen _ c.args.s.now c.args.i c.requires.2 _ c.get_seen-count.ensures.row_after c.if-terms-eq0.true

pub returns : goal.returns
returns c =
    let seen = c.get_seen-count.ensures in (
      record { narrow = seen.value.1; split = rw c.get.ensures (ends_split _ c.args.s.now c.args.i c.requires.2) },
      seen_stays c.args.risen _ c.args.s.now c.args.i c.requires.2 _ seen.row_after _ seen.value.0 _ c.if-terms-eq0.false c.get.ensures,
    )
