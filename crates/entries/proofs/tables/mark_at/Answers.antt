-- `entries::tables::mark_at` meets its contract: a row in form has no empty term in use and zeros behind them (`mark-read`).
use mathlib.Core.Path.{ap, ◌∙◌}
use native.Mathlib.Omega.{arith}
use Rattle.predicates.specs.code.Marks.{singles}
use Rattle.state.proofs.StateLaws.{entry_count_le}
use Rattle.entries.proofs.StandingLaws.{mark-read}
use Rattle.entries.proofs.tables.mark_at.Goals as goal

pub overflow_mul-i : goal.overflow_mul-i
overflow_mul-i c = omega (arith, entry_count_le _ c.requires.1)

pub overflow_add-i : goal.overflow_add-i
overflow_add-i c = omega (arith, entry_count_le _ c.requires.1)

pub overflow_add-i-2 : goal.overflow_add-i-2
overflow_add-i-2 c = omega (arith, entry_count_le _ c.requires.1)

pub get_words-requires : goal.get_words-requires
get_words-requires c = omega (arith, entry_count_le _ c.requires.1)

pub returns : goal.returns
returns c =
    c.names_alone.ensures ∙ ap singles c.get_words.ensures ∙ mark-read c.args.s.now c.requires.1 c.args.i c.requires.2
