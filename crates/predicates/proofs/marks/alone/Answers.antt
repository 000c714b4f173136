-- `predicates::marks::alone` meets its contract: a term of two names or more adds none (`alone-few`, `alone_many`).
use mathlib.Core.Path.{sym, ◌∙◌}
use Rattle.predicates.proofs.MarkLaws.{alone-few, alone_many}
use Rattle.predicates.proofs.marks.alone.Goals as goal

pub returns-then-at_most_one : goal.returns-then-at_most_one
returns-then-at_most_one c = sym (alone-few _ (sym c.at_most_one.ensures ∙ c.if-at_most_one.true))

pub returns-else-at_most_one : goal.returns-else-at_most_one
returns-else-at_most_one c = sym (alone_many _ (sym c.at_most_one.ensures ∙ c.if-at_most_one.false))
