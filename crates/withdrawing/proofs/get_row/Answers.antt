-- `withdrawing::get_row` meets its contract: the entry's row is read, which is true where its first mask is empty (`entry_gone`); else it is put last
-- (`entry_stays`, `rows_appended`).
use Prim.Native.Nat.{ℕ, ◌+◌, ◌*◌, ◌≤◌, ◌<◌}
use mathlib.Core.Path.{◌≡◌, sym, ap, ◌∙◌}
use mathlib.Core.List.{List, ◌++◌, append-nil}
use native.Mathlib.Nat.{suc-mul}
use native.Mathlib.Omega.{arith}
use lib.ListN.{length, take}
use Rattle.numbers.specs.Numbers.{tab}
use Rattle.state.specs.Form.{entry_fits}
use Rattle.state.specs.code.Tables.{table, row_of}
use Rattle.state.proofs.RowLaws.{table_less}
use Rattle.entries.proofs.TableLaws.{table_appended, rows_appended}
use Rattle.withdrawing.proofs.WithdrawnLaws.{entry_gone, length_entry, entry_stays}
use Rattle.withdrawing.proofs.get_row.Goals as goal
use Rattle.withdrawing.proofs.get_row.Goals.{After-get_seen-count}

pub get_seen-count-requires : goal.get_seen-count-requires
unfolding entry_fits
get_seen-count-requires c =
    record { in_bounds = (omega (arith, c.requires.state_size_in_bounds.0, c.requires.state_size_in_bounds.1), omega arith); t = c.requires.state_size_in_bounds.2 }

pub returns-then-row-eq0 : goal.returns-then-row-eq0
returns-then-row-eq0 c =
    let was = tab c.args.r (row_of 16 (table c.args.counts.now c.args.masks.now)) in
    let gone = entry_gone c.args.risen _ c.args.s.now c.args.i c.requires.state_size_in_bounds.2 _ c.get_seen-count.ensures.row_after c.if-row-eq0.true in
    record { upper_bound = (omega arith, c.requires.table_fits); masks_after = sym (ap (λ (l : List (List ℕ)). was ++ l) gone ∙ append-nil was) }

-- as many terms as there are
long : (c : After-get_seen-count) → c.get_seen-count.result ≡ length (take c.get_seen-count.result c.get_seen-count.new.row)
long c =
    length_entry c.args.risen _ c.args.s.now c.args.i c.requires.state_size_in_bounds.2 _ c.get_seen-count.ensures.row_after _ c.get_seen-count.ensures.value.0

-- there is room for them
room : (c : After-get_seen-count) → let a = c.args in
    (a.r < length a.counts.now) × (a.r * 16 + length (take c.get_seen-count.result c.get_seen-count.new.row) ≤ length a.masks.now)
room c =
    (omega (arith, c.requires.table_fits.counted), omega (arith, c.requires.table_fits.long, long c, c.get_seen-count.ensures.value.1, suc-mul c.args.r 16))

pub returns : goal.returns
returns c =
    let made = c.add_row.ensures in
    let seen = c.get_seen-count.ensures in
    let terms = take c.get_seen-count.result c.get_seen-count.new.row in
    let few : length terms ≤ 16 = omega (arith, long (goal.at.returns c).After-get_seen-count, seen.value.1) in
    let there = room (goal.at.returns c).After-get_seen-count in
    let was = tab c.args.r (row_of 16 (table c.args.counts.now c.args.masks.now)) in
    let fewer = table_less 16 (c.args.r + 1) c.args.r _ _ c.requires.table_fits (omega arith) in
    let stays = entry_stays c.args.risen _ c.args.s.now c.args.i c.requires.state_size_in_bounds.2 _ seen.row_after _ seen.value.0 c.if-row-eq0.false in record { upper_bound = (omega arith, rw (made.counts_after, made.masks_after) (table_appended 16 c.args.r _ _ terms c.requires.table_fits few)); masks_after = rw (made.counts_after, made.masks_after) (rows_appended 16 c.args.r _ _ terms fewer there.0 there.1 ∙ ap (λ (l : List (List ℕ)). was ++ l) (sym stays)) }
