-- `entries::tables::Entries::learn_term` meets its contract: an entry that implies it is there, or `put_last` does the rest.
use mathlib.Core.Path.{sym, ◌∙◌}
use Rattle.entries.specs.Entries.{learn}
use Rattle.entries.proofs.tables.Entries.learn_term.Goals as goal

pub returns-else-not-explained-clause-entries_after : goal.returns-else-not-explained-clause-entries_after
unfolding learn
returns-else-not-explained-clause-entries_after c = rw (sym c.explained.ensures ∙ c.if-not-explained.false)
