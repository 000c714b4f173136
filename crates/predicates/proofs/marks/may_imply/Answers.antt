-- `predicates::marks::may_imply` meets its contract: marks of which the first is not within the second tell the predicates apart (`implies_not`).
use mathlib.Core.Path.{sym, ◌∙◌}
use Rattle.predicates.proofs.MarkLaws.{implies_not}
use borrow.Author.Rules.{rules}
use Rattle.predicates.proofs.marks.may_imply.Goals as goal

pub returns : goal.returns
returns c = (c.subset.ensures, λ e p q f g. implies_not p q _ _ f g (search rules) (sym c.subset.ensures ∙ e))
