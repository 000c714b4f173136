-- `state::store::get_data` meets its contract: turn i reads datum i into its row.
use mathlib.Core.Path.{sym, ◌∙◌}
use Rattle.std.proofs.Common.{rules, arith}
use Rattle.std.proofs.lemmas.List.{take_more_set}
use Rattle.numbers.specs.Numbers.{tab}
use Rattle.numbers.proofs.NumberLaws.{tab_suc}
use Rattle.state.specs.code.Tables.{datum_row}
use Rattle.state.proofs.store.get_data.Goals as goal

pub loop-i-init : goal.loop-i-init
unfolding tab
loop-i-init c = search rules

pub loop-i-preserved : goal.loop-i-preserved
loop-i-preserved c =
    take_more_set c.loop-i.held c.loop-i.i c.get_datum.result (omega arith)
    ∙ rw (c.loop-i.invariant, c.get_datum.ensures) (sym (tab_suc c.loop-i.i (datum_row c.args.s.now)))
