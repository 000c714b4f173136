-- `entries::tables::Entries::implies_row` meets its contract: e implies no row whose mark lacks a name of its own (`apart-row`), and none without terms
-- (`implies_nothing`); else the row's terms are tested.
use mathlib.Core.Path.{sym, ap, ◌∙◌}
use native.Mathlib.Omega.{arith}
use Prim.Native.Nat.{◌<◌}
use lib.ListN.{length}
use Rattle.predicates.specs.code.Marks.{mark_of}
use Rattle.entries.proofs.TableLaws.{apart-row, implies_nothing}
use Rattle.entries.proofs.StandingLaws.{row-none}
use borrow.Author.Rules.{rules}
use Rattle.entries.proofs.tables.Entries.implies_row.Goals as goal

pub returns-then-not-may_imply : goal.returns-then-not-may_imply
returns-then-not-may_imply c =
    sym (apart-row _ _ _ _ _ _ (c.args.self.now.marked.mark c.args.i c.requires.i_in_bounds) c.requires.mark_value.0 c.requires.mark_value.1
    (c.may_imply.ensures.1 c.if-not-may_imply.true))

pub implies_by_mark-requires : goal.implies_by_mark-requires
implies_by_mark-requires c =
    let got = c.row-row.ensures ∙ c.standing-standing.ensures.rows.1 c.args.i in
    let some : 0 < length c.row-row.result.now = search rules in
    c.args.self.now.marked.mark c.args.i c.requires.i_in_bounds (λ z. omega (arith, some, ap length got ∙ row-none c.args.i _ _ z)) ∙ ap mark_of (sym got)

pub returns-then-not-is_empty : goal.returns-then-not-is_empty
returns-then-not-is_empty c = rw (sym (c.row-row.ensures ∙ c.standing-standing.ensures.rows.1 c.args.i)) c.implies_by_mark.ensures

pub returns-else-not-is_empty : goal.returns-else-not-is_empty
returns-else-not-is_empty c =
    rw (sym (c.row-row.ensures ∙ c.standing-standing.ensures.rows.1 c.args.i), implies_nothing c.args.e.now c.row-row.result.now c.requires.mark_value.1 (search rules), c.if-not-is_empty.false)
