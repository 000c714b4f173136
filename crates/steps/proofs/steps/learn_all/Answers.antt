-- `steps::steps::learn_all` meets its contract: held datum by held datum, oldest first (`learnt-more`).
use mathlib.Core.Path.{refl}
use native.Mathlib.Omega.{arith}
use lib.ListN.{length}
use Rattle.std.proofs.Math.Seq.{take_all}
use Rattle.steps.specs.Steps.{learnt}
use Rattle.state.specs.code.Tables.{datum_of}
use Rattle.state.proofs.StoreLaws.{length-terms}
use Rattle.entries.proofs.LoanLaws.{kept_refl, kept_trans, room_left}
use Rattle.steps.proofs.HeldLaws.{learnt-more}
use Rattle.steps.proofs.steps.learn_all.Goals as goal

pub loop-row-init : goal.loop-row-init
unfolding learnt
loop-row-init c = (kept_refl c.args.entries.now, omega arith, refl)

pub learn_from-requires-clause-room : goal.learn_from-requires-clause-room
learn_from-requires-clause-room c =
    room_left (length c.args.held.now) c.loop-row.row-index c.args.entries.now c.loop-row.entries c.requires.room c.loop-row.invariant.0 c.loop-row.invariant.1
    c.loop-row-test.true

pub learn_from-requires-clause-q_len_bound : goal.learn_from-requires-clause-q_len_bound
learn_from-requires-clause-q_len_bound c =
    let p = c.requires.p_nonzero in
    (rw c.terms.ensures (length-terms _ (c.requires.fit.0 c.loop-row.row-index _ c.loop-row-test.true)), p.0, p.1)

pub loop-row-preserved : goal.loop-row-preserved
loop-row-preserved c =
    let made = c.learn_from.ensures in (
      kept_trans c.args.entries.now c.loop-row.entries c.learn_from.new.entries c.loop-row.invariant.0 made.kept.0,
      omega (arith, made.kept.1, c.loop-row.invariant.1),
      learnt-more (datum_of c.args.new c.args.p.now) c.args.held.now c.loop-row.row-index _ c.loop-row-test.true _ _ _ c.loop-row.invariant.2
          (rw c.terms.ensures at made.entries_after),
    )

pub returns : goal.returns
returns c =
    let all = take_all c.loop-row.row-index c.args.held.now c.loop-row-test.false in
    record { kept = (c.loop-row.invariant.0, omega arith); entries_after = rw all at c.loop-row.invariant.2 }
