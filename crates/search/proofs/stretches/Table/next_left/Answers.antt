-- `Table::next_left` meets its contract: the side is the left one.
use Rattle.std.proofs.Common.{rules}
use Rattle.search.proofs.stretches.Table.next_left.Goals as goal

pub returns-clause-next : goal.returns-clause-next
returns-clause-next c = c.next_end.ensures.next (λ s. s.left) (λ s r p. search rules)
