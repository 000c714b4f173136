-- `entries::tables::Entries::put_last` meets its contract: those that e implies are given up, and its count, its terms and its mark are put behind the
-- rows (`LoanLaws`).
use native.Mathlib.Omega.{arith}
use Rattle.entries.specs.code.Rows.{Room}
use Rattle.entries.proofs.LoanLaws.{room_kept, array_place, fits_counted, marks_counted, fits_put, fits_less, marks_put, marks_last, known_put}
use Rattle.entries.proofs.tables.Entries.put_last.Goals as goal
use Rattle.entries.proofs.tables.Entries.put_last.Goals.{After-forget}

room : (c : After-forget) → Room 1 c.forget.new.self
room c = room_kept 1 c.args.self.now c.forget.new.self c.requires.room c.forget.ensures.kept c.forget.ensures.rest.0

pub overflow_mul-from : goal.overflow_mul-from
overflow_mul-from c = let f = c.forget.new.self in omega (arith, array_place f c.args.e.now (room (goal.at.overflow_mul-from c).After-forget) c.requires.e_nonzero.1)

pub invariant_of-self : goal.invariant_of-self
invariant_of-self c =
    let f = c.forget.new.self in
    let r = room (goal.at.invariant_of-self c).After-forget in
    let few = c.requires.e_nonzero.1 in
    record { own = f.own; fits = fits_counted f c.args.e.now r few; marked = marks_counted f c.args.e.now r few }

pub copy-requires : goal.copy-requires
copy-requires c =
    let f = c.forget.new.self in
    omega (arith, array_place f c.args.e.now (room (goal.at.copy-requires c).After-forget) c.requires.e_nonzero.1, c.requires.e_nonzero.1)

pub invariant_of-self-2 : goal.invariant_of-self-2
invariant_of-self-2 c =
    let f = c.forget.new.self in
    let r = room (goal.at.invariant_of-self-2 c).After-forget in
    let few = c.requires.e_nonzero.1 in
    record { own = f.own; fits = fits_less f c.args.e.now r few _ c.copy.ensures; marked = marks_put f c.args.e.now r few _ c.copy.ensures }

pub invariant_of-self-3 : goal.invariant_of-self-3
invariant_of-self-3 c =
    let f = c.forget.new.self in
    let r = room (goal.at.invariant_of-self-3 c).After-forget in
    let few = c.requires.e_nonzero.1 in
    record { own = f.own; fits = fits_put f c.args.e.now r few _ c.copy.ensures; marked = marks_last f c.args.e.now r few _ c.copy.ensures _ c.mark_of-mark.ensures }

pub returns-clause-entries_after : goal.returns-clause-entries_after
returns-clause-entries_after c =
    let f = c.forget.new.self in
    let r = room (goal.at.returns-clause-entries_after c).After-forget in
    let few = c.requires.e_nonzero.1 in
    let kept = c.forget.ensures.kept in
    let rest = c.forget.ensures.rest in
    known_put f c.args.e.now r few _ c.copy.ensures c.args.self.now kept.0 kept.1 rest.0 rest.1 c.forget.ensures.counts_after c.requires.e_nonzero.0 c.requires.e_value
