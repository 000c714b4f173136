-- `predicates::marks::holds_by_mark` meets its contract: a name that is shared with the mark decides (`holds-mark`); else the terms are tried.
use mathlib.Core.Path.{sym}
use Rattle.predicates.proofs.MarkLaws.{holds-mark}
use Rattle.predicates.proofs.marks.holds_by_mark.Goals as goal

pub returns-then-shared-ne0 : goal.returns-then-shared-ne0
returns-then-shared-ne0 c =
    sym (holds-mark _ _ _ _ c.requires c.shared.ensures c.if-shared-ne0.true)
