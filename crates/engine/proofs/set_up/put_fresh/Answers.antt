-- `engine::set_up::put_fresh` meets its contract: the head's numbers, no data, the fresh knowledge, the cleared clocks and the epochs with the own one
-- are the parts of the fresh state (`fresh-put`).
use mathlib.Core.Path.{refl}
use native.Mathlib.Omega.{arith}
use Rattle.numbers.specs.Numbers.{tab}
use Rattle.state.specs.Layout.{entry_place, entries_most, data_bytes, joined}
use Rattle.state.specs.code.Tables.{entry_masks, entries_in}
use Rattle.state.specs.code.Known.{nothing_known}
use Rattle.state.proofs.PutLaws.{zero_none}
use Rattle.state.proofs.StoreLaws.{table-fresh}
use Rattle.engine.specs.Calls.{setup}
use Rattle.engine.proofs.SetUpLaws.{fresh-put}
use Rattle.engine.proofs.set_up.put_fresh.Goals as goal

pub counts-requires : goal.counts-requires
unfolding nothing_known
counts-requires c = rw c.fresh-known.ensures (omega arith)

pub put_known-requires : goal.put_known-requires
unfolding nothing_known entry_masks entries_in tab joined
put_known-requires c =
    rw (c.counts.ensures, c.fresh-known.ensures) record {
      table_fits = table-fresh 16 0 0 512 (omega arith) (omega arith);
      masks_len_bound = omega arith;
      n_le_rows_most = (omega arith, omega arith, omega arith);
      by_index = λ i h f. absurd (omega arith);
      used_le_entries_most = (omega arith, zero_none (entry_place entries_most) _);
    }

pub returns : goal.returns
unfolding nothing_known entry_masks entries_in tab data_bytes joined
returns c =
    fresh-put (setup c.args.own c.args.drift c.args.reading c.args.epoch) _ _ _ _ _ _ _ _ _ _ c.requires.0 c.requires.1
    c.put32.ensures
    c.put32-2.ensures
    c.put64.ensures
    c.put32-3.ensures
    c.clear.ensures
    (rw (c.counts.ensures, c.fresh-known.ensures) at c.put_known.ensures)
    c.clear-2.ensures
    c.clear-3.ensures
    refl
