-- `entries::tables::Standing::row_implies` meets its contract: a row whose mark has a name more than that of p does not imply p (`row_apart`), nor does
-- one without terms; else its terms are tested.
use mathlib.Core.Path.{sym}
use Rattle.state.proofs.RowLaws.{has_some}
use Rattle.entries.proofs.TableLaws.{row_apart, has_none}
use borrow.Author.Rules.{rules}
use Rattle.entries.proofs.tables.Standing.row_implies.Goals as goal

pub returns-then-not-may_imply : goal.returns-then-not-may_imply
returns-then-not-may_imply c =
    sym (row_apart _ _ _ _ _ _ (c.args.self.now.marked.mark c.args.i c.requires.i_in_bounds) c.requires.bound_value (c.may_imply.ensures.1 c.if-not-may_imply.true))

pub returns-then-not-is_empty : goal.returns-then-not-is_empty
returns-then-not-is_empty c = rw (sym c.row-row.ensures, has_some c.row-row.result.now (search rules)) c.implies_by_mark.ensures

pub returns-else-not-is_empty : goal.returns-else-not-is_empty
returns-else-not-is_empty c = rw (sym c.row-row.ensures, has_none c.row-row.result.now (search rules), c.if-not-is_empty.false)
